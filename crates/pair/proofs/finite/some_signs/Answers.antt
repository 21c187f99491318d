-- `pair::finite::some_signs` meets its contract: it tries each two signs. Assumes nothing.
use mathlib.Core.Path.{refl, sym, ◌∙◌}
use Prim.Native.Nat.{ℕ, zero, suc, ◌<◌}
use native.Mathlib.Omega.{arith}
use mathlib.Core.Bool.{false≢true}
use lib.Dec.{lit<}
use Rattle.pair.specs.Pair.{Posed}
use Rattle.pair.proofs.finite.some_signs.Goals as goal

-- one of two signs
by_sign : (P : ℕ → Type 0) (n : ℕ) → n < 2 → P n → (P 0 → ⊥) → P 1
by_sign P zero h p none = absurd (none p)
by_sign P (suc zero) h p none = p
by_sign P (suc (suc n)) h p none = absurd (omega arith)

-- the last of four sign pairs, where the others are refuted
last : (P : ℕ → ℕ → Type 0) (m n : ℕ) → m < 2 → n < 2 → P m n → (P 0 0 → ⊥) → (P 0 1 → ⊥) → (P 1 0 → ⊥) → P 1 1
last P m n hm hn p p00 p01 p10 =
    by_sign (λ (k : ℕ). P 1 k) n hn
    (by_sign (λ (k : ℕ). P k n) m hm p (λ q. by_sign_none n hn q))
    p10
  where
    by_sign_none : (n : ℕ) → n < 2 → P 0 n → ⊥
    by_sign_none zero h q = p00 q
    by_sign_none (suc zero) h q = p01 q
    by_sign_none (suc (suc n)) h q = absurd (omega arith)

pub returns-then-signs_admit : goal.returns-then-signs_admit
returns-then-signs_admit c valid =
    ((λ e. record { sa = 0; sb = 0; sa_lt = lit< tt; sb_lt = lit< tt; posed = (c.signs_admit.ensures valid).0 c.if-signs_admit.true }), λ P. refl)

pub returns-then-signs_admit-2 : goal.returns-then-signs_admit-2
returns-then-signs_admit-2 c valid =
    ((λ e. record { sa = 0; sb = 1; sa_lt = lit< tt; sb_lt = lit< tt; posed = (c.signs_admit-2.ensures valid).0 c.if-signs_admit-2.true }), λ P. refl)

pub returns-then-signs_admit-3 : goal.returns-then-signs_admit-3
returns-then-signs_admit-3 c valid =
    ((λ e. record { sa = 1; sb = 0; sa_lt = lit< tt; sb_lt = lit< tt; posed = (c.signs_admit-3.ensures valid).0 c.if-signs_admit-3.true }), λ P. refl)

pub returns : goal.returns
returns c valid =
    let a = c.args in (
      (λ e. record { sa = 1; sb = 1; sa_lt = lit< tt; sb_lt = lit< tt; posed = (c.signs_admit-4.ensures valid).0 e }),
      λ P.
          (c.signs_admit-4.ensures valid).1
          (last (Posed a.job a.ea a.eb) P.sa P.sb P.sa_lt P.sb_lt P.posed
          (λ q. false≢true (sym c.if-signs_admit.false ∙ (c.signs_admit.ensures valid).1 q))
          (λ q. false≢true (sym c.if-signs_admit-2.false ∙ (c.signs_admit-2.ensures valid).1 q))
          (λ q. false≢true (sym c.if-signs_admit-3.false ∙ (c.signs_admit-3.ensures valid).1 q))),
    )
