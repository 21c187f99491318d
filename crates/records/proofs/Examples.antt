-- Document 01's example file: the records of the jobs of cases 1 and 4, byte for byte, and what reading it gives; and a record with bounds
-- (document 02, W-207). Computed. Assumes nothing.
use Rattle.std.specs.Prelude.{Some}
use mathlib.Core.Path.{◌≡◌, refl}
use mathlib.Core.List.{List, [], ◌∷◌}
use Prim.Native.Nat.{ℕ}
use Rattle.format.specs.Format.{format_cause, operation_cause, mode_cause, word_cause}
use Rattle.mask.specs.declared.Mask.{Mask}
use Rattle.mask.specs.Mask.{mask_cause, masks_cause, free_mask}
use Rattle.job.specs.Dropped.{dropped_cause, free_dropped, normalised}
use Rattle.job.specs.Job.{setting_cause, form_cause, cause_with, request_cause}
use Rattle.job.specs.Role.{only_mask}
use Rattle.bounds.specs.Bounds.{rank, ends_cause, bounds_cause}
use Rattle.numbers.specs.Number.{little_endian}
use Rattle.numbers.specs.Numbers.{number_bytes}
use Rattle.layout.specs.Layout.{sizes, map_of}
use Rattle.layout.specs.Fields.{word_bytes, with_default, layout, entry_numbers, entry_map}
use Rattle.records.specs.Record.{record_bytes}
use Rattle.records.specs.File.{file_bytes, normalised_entries, Reads, Writable, none, more}
use Rattle.layout.specs.declared.Entry.{Entry}
use Rattle.records.proofs.Files.{file_read}

-- the masks of both jobs, with a mask for the carries
abbrev entry : Mask → Entry
entry carries =
    record {
      job = record {
        setting = record { format = record { w = 3; f = 4 }; operation = 0; mode = 0 };
        a = only_mask (record { care = 0xf7; value = 0x45 });
        b = only_mask (record { care = 0xef; value = 0x2b });
        c = only_mask (record { care = 0xe6; value = 0x44 });
        carries = carries;
        dropped = free_dropped;
      };
      r1 = 0;
      r2 = 0;
    }

abbrev jobs : List Entry
jobs = entry (record { care = 0; value = 0 }) ∷ entry (record { care = 2; value = 2 }) ∷ []

abbrev file : List ℕ
file =
    0x07 ∷ 0x03 ∷ 0x04 ∷ 0x00 ∷ 0xf7 ∷ 0 ∷ 0 ∷ 0 ∷ 0x45 ∷ 0 ∷ 0 ∷ 0 ∷ 0xef ∷ 0 ∷ 0 ∷ 0 ∷ 0x2b ∷ 0 ∷ 0 ∷ 0 ∷ 0xe6 ∷ 0 ∷ 0 ∷ 0 ∷ 0x44 ∷ 0 ∷ 0 ∷ 0
    ∷ 0x0f ∷ 0x03 ∷ 0x04 ∷ 0x00 ∷ 0xf7 ∷ 0 ∷ 0 ∷ 0 ∷ 0x45 ∷ 0 ∷ 0 ∷ 0 ∷ 0xef ∷ 0 ∷ 0 ∷ 0 ∷ 0x2b ∷ 0 ∷ 0 ∷ 0 ∷ 0xe6 ∷ 0 ∷ 0 ∷ 0 ∷ 0x44 ∷ 0 ∷ 0 ∷ 0
    ∷ 0x02 ∷ 0 ∷ 0 ∷ 0 ∷ 0x02 ∷ 0 ∷ 0 ∷ 0 ∷ []

pub example_bytes : file_bytes jobs ≡ file
unfolding file_bytes record_bytes word_bytes entry_numbers normalised entry_map with_default layout sizes map_of number_bytes little_endian
example_bytes = refl

writable : Writable jobs
unfolding request_cause cause_with form_cause ends_cause bounds_cause setting_cause masks_cause dropped_cause format_cause operation_cause mode_cause word_cause mask_cause
writable = more refl (more refl none)

pub example_read : Reads file jobs
unfolding file_bytes normalised_entries record_bytes word_bytes entry_numbers normalised entry_map with_default layout sizes map_of number_bytes little_endian
example_read = file_read writable

-- 3/4, a from -1 to 1 and c from +0 to -0: a second map, so five header bytes, and each low bound before its high one
abbrev bounded : List Entry
bounded =
    record {
      job = record {
        setting = record { format = record { w = 3; f = 4 }; operation = 0; mode = 0 };
        a = record { mask = free_mask; bounds = Some (record { low = 0xb0; high = 0x30 }) };
        b = only_mask free_mask;
        c = record { mask = free_mask; bounds = Some (record { low = 0; high = 0x80 }) };
        carries = free_mask;
        dropped = free_dropped;
      };
      r1 = 0;
      r2 = 0;
    } ∷ []

abbrev bounded_file : List ℕ
bounded_file = 0x80 ∷ 0x05 ∷ 0x03 ∷ 0x04 ∷ 0x00 ∷ 0xb0 ∷ 0 ∷ 0 ∷ 0 ∷ 0x30 ∷ 0 ∷ 0 ∷ 0 ∷ 0 ∷ 0 ∷ 0 ∷ 0 ∷ 0x80 ∷ 0 ∷ 0 ∷ 0 ∷ []

bounded_writable : Writable bounded
unfolding request_cause cause_with form_cause ends_cause bounds_cause rank setting_cause masks_cause dropped_cause format_cause operation_cause mode_cause word_cause mask_cause
bounded_writable = more refl none

pub bounded_read : Reads bounded_file bounded
unfolding file_bytes normalised_entries record_bytes word_bytes entry_numbers normalised entry_map with_default layout sizes map_of number_bytes little_endian
bounded_read = file_read bounded_writable
