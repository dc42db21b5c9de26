-- restore_power_on_values: RULES.md 10. Assumes nothing.
use Rattle.answers.specs.declared.Refusal.{Refusal}
use Rattle.std.specs.Prelude.{ℕ, zero, suc, ◌+◌, ◌*◌, ◌^◌, ◌≤◌, ◌<◌, ◌≡◌, true, false, cond, List, length, get_or, Result, Ok, Err}
use Rattle.answers.specs.declared.Refusal.TheVariants.{Malformed, TooLong}
use Rattle.value.specs.Codec.{is_text, size_of}
use Rattle.entry.specs.Table.{Dict, number_of, index_at, count_at, slot_end, type_at, start_at}
use Rattle.entry.specs.Encode.{encoding_at}
use Rattle.entry.specs.Put.{put_new}
use Rattle.entry.specs.Judge.{well_formed}
use Rattle.image.specs.Readable.{type_in}
use Rattle.fitting.specs.declared.Choice.{Choice}
use Rattle.fitting.specs.declared.Choice.TheVariants.{Keep, Stored, Default}
use Rattle.fitting.specs.Records.{body_in}
use Rattle.fitting.specs.Fit.{slot_in, chosen_at, in_range, rows_fit}

-- R10.11: "Putting here sets the type as well."
unfoldable pub restored_by : Dict → List ℕ → ℕ → Choice → Dict
restored_by d s p Keep = d
restored_by d s p (Stored a) = put_new d p (type_in s a) (body_in s a)
restored_by d s p (Default q) = put_new d p (type_at d.slots q) (encoding_at d q)

-- ---- n values of row i, from value k on
unfoldable pub values_restored : Dict → List ℕ → ℕ → ℕ → ℕ → Dict
values_restored d s i zero k = d
values_restored d s i (suc n) k = values_restored (restored_by d s (slot_in d.objects i k) (chosen_at d s i k)) s i n (suc k)

-- ---- n rows, from row i on
unfoldable pub rows_restored : Dict → List ℕ → ℕ → ℕ → ℕ → ℕ → Dict
rows_restored d s first last zero i = d
rows_restored d s first last (suc n) i =
    rows_restored (cond (in_range first last (index_at d.objects i)) (values_restored d s i (count_at d.objects i) 0) d) s first last n (suc i)

-- ---- an answer, and the dictionary after it
pub record AfterRestore : Type 0 where
  pub answer : Result (Unit {0}) Refusal
  pub memory : Dict

abbrev pub after_restore : Result (Unit {0}) Refusal → Dict → AfterRestore
after_restore a d = record { answer = a; memory = d }

-- R10.8: "Malformed (1), TooLong (13)"; R10.10: "nothing is put"
unfoldable pub restore_of : Dict → List ℕ → ℕ → ℕ → AfterRestore
restore_of d s first last =
    cond (well_formed d)
    (cond (rows_fit d s first last (number_of d.objects) 0)
    (after_restore (Ok tt) (rows_restored d s first last (number_of d.objects) 0))
    (after_restore (Err TooLong) d))
    (after_restore (Err Malformed) d)

-- what copying the default at slot q to value p needs
pub record Copies (slots words bytes : List ℕ) (p q : ℕ) : Type 0 where
  pub low : (p < 6144) × (q < 6144)
  pub slot : (slot_end p ≤ length slots) × (slot_end q ≤ length slots)
  pub word : (p < length words) × (q < length words)
  pub text : is_text (type_at slots q) ≡ true → (start_at slots p ≤ start_at slots q) × (start_at slots q + get_or words q 0 ≤ length bytes) × (start_at slots q + get_or words q 0 ≤ 32768)
  pub fixed : is_text (type_at slots q) ≡ false → get_or words q 0 < 2 ^ (8 * size_of (type_at slots q))
