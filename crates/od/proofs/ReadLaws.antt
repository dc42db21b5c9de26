-- What a text or bytes that were read lie within. Assumes nothing.
use Rattle.std.specs.Prelude.{Result, Ok, Err, IfOk}
use Rattle.answers.specs.declared.Refusal.{Refusal}
use Rattle.od.specs.declared.Stored.{Stored}
use mathlib.Core.Path.{◌≡◌, refl, sym, ap, ◌∙◌}
use mathlib.Core.Bool.{Bool, true, false, cond}
use Prim.Native.Nat.{ℕ, ◌+◌, ◌≤◌}
use native.Mathlib.Omega.{arith}
use lib.ListN.{length, get_or}
use Rattle.answers.specs.declared.Refusal.TheVariants.{Malformed}
use Rattle.value.specs.Codec.{is_text}
use Rattle.entry.specs.Table.{Dict, type_at, start_at}
use Rattle.entry.specs.Find.{place_of}
use Rattle.entry.specs.Judge.{well_formed}
use Rattle.entry.specs.declared.Place.{Place}
use Rattle.entry.specs.declared.Place.TheVariants.{Count, Value}
use Rattle.entry.specs.declared.Missing.{Missing}
use Rattle.entry.specs.declared.Missing.TheVariants.{NoObject, NoSub}
use Rattle.entry.proofs.ValueLaws.{element_of_lem, element_facts}
use Rattle.od.specs.Read.{read_at, read_of, read_as}

-- what two values that are the same have in common
same_read : (k w s k' w' s' : ℕ) → read_as k w s ≡ read_as k' w' s' → (k ≡ k') × (w ≡ w') × (s ≡ s')
same_read k w s k' w' s' h =
    let part : (Stored → ℕ) → Result Stored Refusal → ℕ = λ f. elim [ Ok v ↦ f v | Err r ↦ 0 ] in
    (ap (part (λ (v : Stored). v.value_type)) h, ap (part (λ (v : Stored). v.word)) h, ap (part (λ (v : Stored). v.start)) h)

pub record PartLies (d : Dict) (word start : ℕ) : Type 0 where
  pub inside : start + word ≤ length d.bytes
  pub small : start + word ≤ 32768

text_lies : (d : Dict) (x sub kind word start : ℕ) → read_of d x sub ≡ read_as kind word start → is_text kind ≡ true → PartLies d word start
unfolding read_of
text_lies d x sub kind word start q t = formed (well_formed d) refl q
  where
    at : well_formed d ≡ true → (a : Result Place Missing) → place_of d.objects x sub ≡ a → read_at d a ≡ read_as kind word start → PartLies d word start
    at w (Err NoObject) p e = let z : ◌≡◌ {A = ℕ} 0 1 = cc in absurd (omega arith)
    at w (Err NoSub) p e = let z : ◌≡◌ {A = ℕ} 0 1 = cc in absurd (omega arith)
    at w (Ok (Count n)) p e =
        let f : false ≡ true = ap is_text (same_read 5 n 0 kind word start e).0 ∙ t in
        let z : ◌≡◌ {A = ℕ} 0 1 = cc in
        absurd (omega arith)
    at w (Ok (Value v)) p e =
        let f = element_facts d w (element_of_lem d w x sub v p) in
        let h = same_read (type_at d.slots v) (get_or d.words v 0) (start_at d.slots v) kind word start e in
        let l = (f.text (ap is_text h.0 ∙ t)).0 in
        record { inside = omega (arith, f.within, f.bytes, h.1, h.2); small = omega (arith, f.within, f.total, h.1, h.2) }

    formed : (b : Bool) → well_formed d ≡ b → cond b (read_at d (place_of d.objects x sub)) (Err Malformed) ≡ read_as kind word start → PartLies d word start
    formed true w e = at w (place_of d.objects x sub) refl e
    formed false w e = let z : ◌≡◌ {A = ℕ} 0 1 = cc in absurd (omega arith)

pub part_lies : (d : Dict) (x sub : ℕ) (found : Result Stored Refusal) → found ≡ read_of d x sub → IfOk found (λ v. is_text v.value_type ≡ true → PartLies d v.word v.start)
part_lies d x sub (Ok v) e = λ t. text_lies d x sub v.value_type v.word v.start (sym e) t
part_lies d x sub (Err r) e = tt

-- of which its place alone is asked where the part is taken
pub part_inside : (d : Dict) (x sub : ℕ) (found : Result Stored Refusal) → found ≡ read_of d x sub → IfOk found (λ v. is_text v.value_type ≡ true → v.start + v.word ≤ length d.bytes)
part_inside d x sub (Ok v) e = λ t. (part_lies d x sub (Ok v) e t).inside
part_inside d x sub (Err r) e = tt
