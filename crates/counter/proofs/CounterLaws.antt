-- Where a counter is, that it lies within the dictionary, and that counting keeps it well formed. Assumes nothing.
use Rattle.std.specs.Prelude.{Option, Some, None, Ok}
use Rattle.std.proofs.Common.{◌≡◌, ℕ, ◌+◌, ◌%◌, ◌^◌, ◌<◌, Bool, true, false, cond, eqb, length, get_or, take, set, sym, refl, ap, ◌∙◌, subst, arith, take_all, ltb-true, eqb-true, ne_eqb}
use Rattle.lists.specs.Numbers.{number, bytes_of}
use Rattle.lists.proofs.NumberLaws.{length-bytes_of, bytes_bytes_of, number-bytes_of}
use Rattle.value.specs.Codec.{size_of, is_text, fits_type, word_at}
use Rattle.entry.specs.Table.{Dict, kind_at, type_at}
use Rattle.entry.specs.Find.{find_row, sub_at, or_no_sub, on_row, place_of}
use Rattle.entry.specs.Judge.{well_formed}
use Rattle.entry.specs.Put.{Contents, contents, put_in, filled}
use Rattle.entry.specs.declared.Place.{Place}
use Rattle.entry.specs.declared.Place.TheVariants.{Count, Value}
use Rattle.entry.proofs.ValueLaws.{element_of_lem, element_facts}
use Rattle.entry.proofs.PutLaws.{put_fixed}
use Rattle.entry.proofs.KeepLaws.{put_element}
use Rattle.counter.specs.Counter.{of_u32, in_row, counter_at, counted, counter_of}

-- a counter is the U32 at its place
pub counter_placed : (d : Dict) (x sub p : ℕ) → counter_at d x sub ≡ Some p → (place_of d.objects x sub ≡ Ok (Value p)) × (type_at d.slots p ≡ 7)
unfolding counter_at
counter_placed d x sub p e = row (find_row d.objects x) refl e
  where
    of_type_lem : (v : ℕ) (b : Bool) → eqb (type_at d.slots v) 7 ≡ b → place_of d.objects x sub ≡ Ok (Value v) → cond b (Some v) None ≡ Some p → (place_of d.objects x sub ≡ Ok (Value p)) × (type_at d.slots p ≡ 7)
    of_type_lem v true t f q = let z : v ≡ p = cc in rw (← z) (f, eqb-true (type_at d.slots v) 7 t)
    of_type_lem v false t f q = let z : ◌≡◌ {A = ℕ} 0 1 = cc in absurd (omega arith)

    place : (a : Option Place) → place_of d.objects x sub ≡ or_no_sub a → of_u32 d a ≡ Some p → (place_of d.objects x sub ≡ Ok (Value p)) × (type_at d.slots p ≡ 7)
    place None s q = let z : ◌≡◌ {A = ℕ} 0 1 = cc in absurd (omega arith)
    place (Some (Count n)) s q = let z : ◌≡◌ {A = ℕ} 0 1 = cc in absurd (omega arith)
    place (Some (Value v)) s q = of_type_lem v (eqb (type_at d.slots v) 7) refl s q

    kind : (i : ℕ) → find_row d.objects x ≡ Some i → (b : Bool) → cond b None (of_u32 d (sub_at d.objects i sub)) ≡ Some p → (place_of d.objects x sub ≡ Ok (Value p)) × (type_at d.slots p ≡ 7)
    kind i f true q = let z : ◌≡◌ {A = ℕ} 0 1 = cc in absurd (omega arith)
    kind i f false q = place (sub_at d.objects i sub) (ap (on_row d.objects sub) f) q

    row : (f : Option ℕ) → find_row d.objects x ≡ f → in_row d sub f ≡ Some p → (place_of d.objects x sub ≡ Ok (Value p)) × (type_at d.slots p ≡ 7)
    row (Some i) f q = kind i f (eqb (kind_at d.objects i) 1) q
    row None f q = let z : ◌≡◌ {A = ℕ} 0 1 = cc in absurd (omega arith)

-- so its word has 32 bits
pub record CounterLies (d : Dict) (p : ℕ) : Type 0 where
  pub low : p < 6144
  pub word : p < length d.words
  pub bits : get_or d.words p 0 < 2 ^ 32

pub counter_lies : (d : Dict) → well_formed d ≡ true → (x sub p : ℕ) → counter_at d x sub ≡ Some p → CounterLies d p
unfolding size_of
counter_lies d w x sub p e =
    let c = counter_placed d x sub p e in
    let f = element_facts d w (element_of_lem d w x sub p c.0) in
    let b : fits_type 7 (get_or d.words p 0) ≡ true = rw c.1 at (f.fixed (ap is_text c.1)) in
    record { low = f.low; word = f.word; bits = ltb-true _ _ b }

-- counting is putting a U32
pub counter_keeps : (d : Dict) (x sub : ℕ) → well_formed d ≡ true → well_formed (filled d (contents (counter_of d x sub).words d.bytes)) ≡ true
unfolding counter_of word_at size_of
counter_keeps d x sub w = rw w (go (counter_at d x sub) refl)
  where
    go : (f : Option ℕ) → counter_at d x sub ≡ f → well_formed (filled d (contents (counted d.words f) d.bytes)) ≡ true
    go None q = w
    go (Some p) q =
        let c = counter_placed d x sub p q in
        let v = (get_or d.words p 0 + 1) % 2 ^ 32 in
        let long = length-bytes_of 4 v in
        let whole : take 4 (bytes_of 4 v) ≡ bytes_of 4 v = take_all 4 (bytes_of 4 v) (omega (arith, long)) in
        let back : number (bytes_of 4 v) ≡ v = number-bytes_of 4 v (omega arith) in
        let put : put_in d.slots (contents d.words d.bytes) p (bytes_of 4 v) ≡ contents (set d.words p v) d.bytes = put_fixed d.slots (contents d.words d.bytes) p (bytes_of 4 v) (ap is_text c.1) ∙ rw (c.1, whole, back) in
        subst (λ (c : Contents). well_formed (filled d c) ≡ true) put (put_element d (bytes_of 4 v) w (element_of_lem d w x sub p c.0) (bytes_bytes_of 4 v) v (record { taken = rw (c.1, long, whole, back); room = λ h. let z : false ≡ true = sym (ap is_text c.1) ∙ h in let u : ◌≡◌ {A = ℕ} 0 1 = cc in absurd (omega arith) }))

-- of a row that is no Array's, what its place comes to
pub placed : (d : Dict) (x sub i : ℕ) → find_row d.objects x ≡ Some i → (kind_at d.objects i ≡ 1 → ⊥) → of_u32 d (sub_at d.objects i sub) ≡ counter_at d x sub
unfolding counter_at
placed d x sub i f n = sym (simp (f, ne_eqb _ 1 n))
