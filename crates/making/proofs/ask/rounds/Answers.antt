-- `making::ask::rounds` meets its contract: rounding off adds a constant and a carry, and where the carry depends on the last kept bit,
-- that is 0 or 1, and each is asked. Assumes nothing.
use mathlib.Core.Logic.{◌↔◌}
use mathlib.Core.Path.{◌≡◌, refl, sym, ap, ap₂, ◌∙◌}
use mathlib.Core.Bool.{Bool, true, false, false≢true}
use Prim.Native.Nat.{ℕ, zero, suc, ◌+◌, ◌/◌, ◌^◌, ◌≤◌, ◌<◌}
use native.Mathlib.Nat.{pow-suc}
use native.Mathlib.Omega.{arith}
use lib.Pow.{pow_pos}
use Rattle.bits.specs.Bit.{bit}
use Rattle.mask.proofs.Bitwise.{bit_case}
use Rattle.mask.specs.declared.Mask.{Mask}
use Rattle.mask.specs.Mask.{Meets, raised}
use Rattle.rounding.specs.declared.Direction.{Direction}
use Rattle.rounding.specs.declared.Direction.TheVariants.{NearestEven, NearestAway, TowardZero, Away}
use Rattle.rounding.specs.Rounding.{round_off, rounding_constant, rounding_carry}
use Rattle.rounding.proofs.AddConstant.{round_off_adds, round_off_adds_fixed, rounding_carry_lt}
use Rattle.making.specs.declared.Aligned as pair
use Rattle.making.specs.Making.{Made, Making, columns_of, Room, Leaves, Askable}
use Rattle.making.specs.Question.{Added}
use Rattle.making.proofs.Rounds.{rounds_meets}
use Rattle.making.proofs.Making.{some_made, making_map, making_answer}
use Rattle.making.proofs.ask.rounds.Goals as goal

-- what rounding adds is less than what it drops
added_lt : (d : Direction) (j last : ℕ) → last < 2 → rounding_constant d j + rounding_carry d j last < 2 ^ j
unfolding rounding_constant rounding_carry
added_lt d zero last h = omega arith
added_lt NearestEven (suc j) last h = omega (arith, pow_pos j, pow-suc 2 j)
added_lt NearestAway (suc j) last h = omega (arith, pow_pos j, pow-suc 2 j)
added_lt TowardZero (suc j) last h = omega (arith, pow_pos (suc j))
added_lt Away (suc j) last h = omega (arith, pow_pos (suc j))

-- toward zero both are 0
none_added : (j : ℕ) → rounding_constant TowardZero j ≡ 0
unfolding rounding_constant
none_added zero = refl
none_added (suc j) = refl

none_carried : (j last : ℕ) → rounding_carry TowardZero j last ≡ 0
unfolding rounding_carry
none_carried zero last = refl
none_carried (suc j) last = refl

toward_zero_adds_none : (d : Direction) (j : ℕ) → j < 64 → (k c last : ℕ) → (j < 64 → k ≡ rounding_constant d j) → c ≡ rounding_carry d j last → d ≡ TowardZero → k + c ≡ 0
toward_zero_adds_none d j l k c last ek ec e =
    ap₂ ◌+◌ (ek l ∙ ap (λ (w : Direction). rounding_constant w j) e ∙ none_added j) (ec ∙ ap (λ (w : Direction). rounding_carry w j last) e ∙ none_carried j last)

module _ (f : ℕ) (A : pair.Aligned) (x y z : Mask) (d : Direction) (j k even odd : ℕ) (moved : z ≡ raised j y) (ek : k ≡ rounding_constant d j)
    (e0 : even ≡ rounding_carry d j 0) (e1 : odd ≡ rounding_carry d j 1) (leaves : Leaves f A j x) where
  -- a number that meets x and y, and the question with the last kept bit b and the carry c
  Rounded : ℕ → Type 0
  Rounded n = Meets n x × Meets (round_off d n j) y

  Last : ℕ → ℕ → ℕ → Type 0
  Last b c n = (bit n j ≡ b) × Added f A x z k c n

  -- what is added fits the columns
  fits : (n b c : ℕ) → Made f A n → Meets n x → b < 2 → c ≡ rounding_carry d j b → n + k + c < 2 ^ columns_of f A
  fits n b c made met h ec = omega (arith, leaves n made met, added_lt d j b h, ek, ec)

  -- the carry does not depend on it
  fixed : even ≡ odd → (r : Bool) → ((r ≡ true) ↔ Making f A (Added f A x z k even)) → (r ≡ true) ↔ Making f A (λ (n : ℕ). Meets n x × Meets (round_off d n j) y)
  fixed same r asks =
      making_answer f A (Added f A x z k even) (λ (n : ℕ). Meets n x × Meets (round_off d n j) y) r
      (λ n made.
      let adds : round_off d n j ≡ (n + k + even) / 2 ^ j = round_off_adds_fixed d j even (sym e0) (sym e1 ∙ sym same) n ∙ ap (λ (m : ℕ). (n + m + even) / 2 ^ j) (sym ek) in
      let p = rounds_meets j n (n + k + even) y d adds in (
        (λ q. (q.number, p.0 (rw moved at q.sum))),
        λ q. record { number = q.0; fits = fits n 0 even made q.0 (omega arith) e0; sum = rw moved (p.1 q.1) },
      ))
      asks

  module _ (b c : ℕ) (h : b < 2) (ec : c ≡ rounding_carry d j b) where
    adds : (n : ℕ) → bit n j ≡ b → round_off d n j ≡ (n + k + c) / 2 ^ j
    adds n e = round_off_adds d n j b e ∙ ap₂ (λ (m o : ℕ). (n + m + o) / 2 ^ j) (sym ek) (sym ec)

    there : (n : ℕ) → Last b c n → Rounded n
    unfolding Last Rounded
    there n q = (q.1.number, (rounds_meets j n (n + k + c) y d (adds n q.0)).0 (rw moved at q.1.sum))

    back : (n : ℕ) → Made f A n → bit n j ≡ b → Rounded n → Last b c n
    unfolding Last Rounded
    back n made e q = (e, record { number = q.0; fits = fits n b c made q.0 h ec; sum = rw moved ((rounds_meets j n (n + k + c) y d (adds n e)).1 q.1) })

  first : (r : Bool) → r ≡ true → ((r ≡ true) ↔ Making f A (λ (n : ℕ). (bit n j ≡ 0) × Added f A x z k even n))
      → (true ≡ true) ↔ Making f A (λ (n : ℕ). Meets n x × Meets (round_off d n j) y)
  unfolding Last Rounded
  first r e asks = some_made f A Rounded (making_map f A (Last 0 even) Rounded (there 0 even (omega arith) e0) (asks.0 e))

  second : (r r' : Bool) → r ≡ false → ((r ≡ true) ↔ Making f A (λ (n : ℕ). (bit n j ≡ 0) × Added f A x z k even n))
      → ((r' ≡ true) ↔ Making f A (λ (n : ℕ). (bit n j ≡ 1) × Added f A x z k odd n))
      → (r' ≡ true) ↔ Making f A (λ (n : ℕ). Meets n x × Meets (round_off d n j) y)
  unfolding Last Rounded
  second r r' e asks asks' = (
    (λ t. making_map f A (Last 1 odd) Rounded (there 1 odd (omega arith) e1) (asks'.0 t)),
    λ m. bit_case m.x j
        (λ b. absurd (false≢true (sym e ∙ asks.1 (record { x = m.x; made = m.made; holds = back 0 even (omega arith) e0 m.x m.made b m.holds }))))
        (λ b. asks'.1 (record { x = m.x; made = m.made; holds = back 1 odd (omega arith) e1 m.x m.made b m.holds })),
  )

-- the mask on what is left, moved up, fits a word
place : (f : ℕ) (A : pair.Aligned) (d : Direction) (j : ℕ) (x y : Mask) → Askable f A d j x y → Room f A → 2 + f + j ≤ 64
place f A d j x y given room = omega (arith, given.columns, room.columns)

pub ask-requires : goal.ask-requires
ask-requires c =
    let a = c.args in
    (c.requires.0, rw c.carry-even.ensures (rounding_carry_lt a.direction a.j 0 (omega arith)))

pub returns-then-even-odd : goal.returns-then-even-odd
returns-then-even-odd c =
    let a = c.args in
    let z = c.raised-z in
    let k = c.constant-added in
    let even = c.carry-even in
    let odd = c.carry-odd in
    λ formed given. fixed a.f a.aligned a.x a.y z.result a.direction a.j k.result even.result odd.result
    (z.ensures (2 + a.f) (place a.f a.aligned a.direction a.j a.x a.y given c.requires.0) given.care_lt given.value_lt) (k.ensures.0 c.requires.1) even.ensures odd.ensures given.leaves
    c.if-even-odd.true c.ask.result
    (c.ask.ensures formed (λ r. toward_zero_adds_none a.direction a.j c.requires.1 k.result even.result 0 k.ensures.0 even.ensures (given.toward_zero r)))

pub ask_last-requires : goal.ask_last-requires
ask_last-requires c =
    let a = c.args in
    (c.requires.0, c.requires.1, omega arith, rw c.carry-even.ensures (rounding_carry_lt a.direction a.j 0 (omega arith)))

pub returns-then-ask_last : goal.returns-then-ask_last
returns-then-ask_last c =
    let a = c.args in
    let z = c.raised-z in
    let k = c.constant-added in
    let even = c.carry-even in
    let odd = c.carry-odd in
    λ formed given. first a.f a.aligned a.x a.y z.result a.direction a.j k.result even.result odd.result
    (z.ensures (2 + a.f) (place a.f a.aligned a.direction a.j a.x a.y given c.requires.0) given.care_lt given.value_lt) (k.ensures.0 c.requires.1) even.ensures odd.ensures given.leaves
    c.ask_last.result c.if-ask_last.true
    (c.ask_last.ensures formed (λ r. toward_zero_adds_none a.direction a.j c.requires.1 k.result even.result 0 k.ensures.0 even.ensures (given.toward_zero r)))

pub ask_last-requires-2 : goal.ask_last-requires-2
ask_last-requires-2 c =
    let a = c.args in
    (c.requires.0, c.requires.1, omega arith, rw c.carry-odd.ensures (rounding_carry_lt a.direction a.j 1 (omega arith)))

pub returns : goal.returns
returns c =
    let a = c.args in
    let z = c.raised-z in
    let k = c.constant-added in
    let even = c.carry-even in
    let odd = c.carry-odd in
    λ formed given. second a.f a.aligned a.x a.y z.result a.direction a.j k.result even.result odd.result
    (z.ensures (2 + a.f) (place a.f a.aligned a.direction a.j a.x a.y given c.requires.0) given.care_lt given.value_lt) (k.ensures.0 c.requires.1) even.ensures odd.ensures given.leaves
    c.ask_last.result c.ask_last-2.result c.if-ask_last.false
    (c.ask_last.ensures formed (λ r. toward_zero_adds_none a.direction a.j c.requires.1 k.result even.result 0 k.ensures.0 even.ensures (given.toward_zero r)))
    (c.ask_last-2.ensures formed (λ r. toward_zero_adds_none a.direction a.j c.requires.1 k.result odd.result 1 k.ensures.0 odd.ensures (given.toward_zero r)))
