-- What IEEE 754 and document 01 ask of c, whatever the two words: the one statement that the others of this crate add up to. Assumes nothing.
use Rattle.std.specs.Prelude.{ℕ}
use Rattle.format.specs.declared.Format.{Format}
use Rattle.standard.specs.Number.{FiniteWord}
use Rattle.standard.specs.Sum.{exact_number, RoundedWord, SignOfSum}
use Rattle.standard.specs.Special.{SpecialSum}

-- c is the sum or difference of a and b in a mode
pub record StandardSum (F : Format) (operation mode a b c : ℕ) : Type 0 where
  pub special : SpecialSum F operation a b c
  pub rounded : FiniteWord F a → FiniteWord F b → RoundedWord F mode (exact_number F operation a b) c
  pub signed : FiniteWord F a → FiniteWord F b → SignOfSum F operation mode a b c
