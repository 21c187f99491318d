-- `Cause::number` meets its contract, cause by cause. Assumes nothing.
use Rattle.std.proofs.Common.{◌≡◌, refl, ◌+◌}
use Rattle.format.specs.declared.cause.Cause.{Cause}
use Rattle.format.specs.declared.cause.Cause.TheVariants as cause
use Rattle.format.specs.Cause.{number}
use Rattle.format.proofs.cause.Cause.number.Goals as goal

numbered : (x : Cause) → denote.Enum.Declared.tag_of Rattle.format.specs.contracts.cause.Cause.the_type x + 1 ≡ number x
unfolding number
numbered cause.ExponentBits = refl
numbered cause.FractionBits = refl
numbered cause.Operation = refl
numbered cause.Mode = refl
numbered cause.Mask = refl
numbered cause.Word = refl
numbered cause.NoCase = refl
numbered cause.Cut = refl
numbered cause.MapBits = refl
numbered cause.DefaultField = refl
numbered cause.Buffer = refl
numbered cause.WholeLength = refl
numbered cause.Clash = refl
numbered cause.SecondMask = refl
numbered cause.ThirdMask = refl
numbered cause.CarryMask = refl
numbered cause.DroppedMask = refl
numbered cause.Bounds = refl

pub returns : goal.returns
returns c = numbered c.args.self
