-- What is wanted of a word, as what is wanted of its fields: the one law for a, b and c. Assumes nothing.
use Rattle.bounds.specs.declared.Ends.{Ends}
use Rattle.std.specs.Prelude.{Option, Some, None}
use mathlib.Core.Logic.{◌↔◌}
use mathlib.Core.Path.{◌≡◌}
use Prim.Native.Nat.{ℕ, ◌+◌, ◌*◌, ◌^◌, ◌<◌}
use native.Mathlib.Omega.{arith}
use lib.Pow as pow
use Rattle.format.specs.declared.Format.{Format}
use Rattle.mask.proofs.ByParts.{meets_fields}
use Rattle.word.specs.Word.{word_of}
use Rattle.word.proofs.Fields.{together_lt, together_sign, together_biased, together_fraction}
use Rattle.bounds.specs.Bounds.{unsigned, Within, ValidBounds}
use Rattle.job.specs.declared.Wanted.{Wanted}
use Rattle.job.specs.Job.{ValidWanted}
use Rattle.fit.specs.Fit.{Allowed}
use Rattle.narrowing.specs.Fraction.{FractionWithin, FieldsAllowed}
use Rattle.narrowing.proofs.Ranges.{between_range}

module _ (F : Format) (s e t : ℕ) (hs : s < 2) (he : e < 2 ^ F.w) (ht : t < 2 ^ F.f) where
  abbrev word : ℕ
  word = word_of F s e t

  unsigned_fields : unsigned F word ≡ e * 2 ^ F.f + t
  unsigned_fields = pow.low s (F.w + F.f) (together_lt F e t he ht)

  within_fraction : (B : Option Ends) → ValidBounds F B → Within F word B ↔ FractionWithin F B s e t
  within_fraction None v = (λ w. tt, λ w. tt)
  within_fraction (Some b) v =
      let law = between_range F word b v s hs (together_sign F s e t hs he ht) in
      let u = unsigned_fields in (
        (λ w. let r = law.0 w in let l = r.0 in let h = r.1 in (omega (arith, u, l), omega (arith, u, h))),
        λ w. let l = w.0 in let h = w.1 in law.1 (omega (arith, u, l), omega (arith, u, h)),
      )

  -- a word is as wanted exactly where its fields are
  pub allowed_fields : (W : Wanted) → ValidWanted F W → Allowed F word W ↔ FieldsAllowed F W s e t
  allowed_fields W v =
      let fields = meets_fields F.w F.f W.mask v.mask word in
      let within = within_fraction W.bounds v.bounds in
      let ps = together_sign F s e t hs he ht in
      let pe = together_biased F s e t hs he ht in
      let pt = together_fraction F s e t hs he ht in (
        (λ a.
            let m = fields.0 a.mask in
            record { sign = rw ps at m.0; exponent = rw pe at m.1; fraction = rw pt at m.2; within = within.0 a.within }),
        λ h. record { mask = fields.1 (rw ps h.sign, rw pe h.exponent, rw pt h.fraction); within = within.1 h.within },
      )
