-- A clean word stores its field, whole, of every payload that is long enough and has good text there. Assumes nothing.
use Rattle.std.specs.Prelude.{Option, Some, None, Ok, Err, Result}
use Rattle.mapping.specs.declared.Field.{Field}
use mathlib.Core.Path.{◌≡◌, refl}
use mathlib.Core.Bool.{Bool, true, false, cond, not, ◌&&◌}
use mathlib.Core.List.{List}
use Prim.Native.Nat.{ℕ, ◌+◌, ◌%◌, ◌≤◌}
use native.Mathlib.Omega.{arith}
use borrow.Author.Tests.{eqb-true, leb-true, le-ltb}
use lib.Dec.{eqb, leb, ltb}
use lib.ListN.{length}
use Rattle.lists.proofs.NumberLaws.{part_length}
use Rattle.text.specs.Machine.{judge}
use Rattle.value.specs.Codec.{is_text, size_of, text_word, word_at}
use Rattle.mapping.specs.Word.{entry_of, field_of, field_at}
use Rattle.entry.specs.Table.{type_at, room_at}
use Rattle.entry.specs.Find.{place_of}
use Rattle.entry.specs.declared.Place.{Place}
use Rattle.entry.specs.declared.Place.TheVariants.{Count, Value}
use Rattle.entry.specs.declared.Missing.{Missing}
use Rattle.entry.proofs.JudgeLaws.{and_true}
use Rattle.aim.specs.Aims.{aim_of, between, class_of}
use Rattle.aim.specs.declared.Class.TheVariants as class
use Rattle.aim.proofs.ClassLaws.{value_class}
use Rattle.pdo_step.specs.declared.Outcome.TheVariants.{Stored}
use Rattle.pdo_step.specs.Outcomes.{part, on_value, outcome_of}
use Rattle.element.specs.declared.Fault.TheVariants as fault
use Rattle.element.specs.Elements.{length_fits, on_target, on_field, word_verdict}
use Rattle.demand.specs.Demand.{TextAt}

-- what a clean word says
pub record CleanWord (objects slots : List ℕ) (w : ℕ) : Type 0 where
  pub target : ℕ
  pub start : ℕ
  pub len : ℕ
  pub field : field_of (entry_of w) ≡ field_at start len
  pub away : between 0x1200 0x12FF (entry_of w).index ≡ false
  pub placed : place_of objects (entry_of w).index (entry_of w).sub_index ≡ Ok (Value target)
  pub fits : length_fits (type_at slots target) (room_at slots target) len ≡ true

pub clean_word : (objects slots : List ℕ) (w : ℕ) → word_verdict objects slots w ≡ (Ok tt) → CleanWord objects slots w
unfolding word_verdict
clean_word objects slots w e = fielded (field_of (entry_of w)) refl e
  where
    x : ℕ
    x = (entry_of w).index

    length_is : (s n p : ℕ) → field_of (entry_of w) ≡ field_at s n → between 0x1200 0x12FF x ≡ false → place_of objects x (entry_of w).sub_index ≡ Ok (Value p)
        → (b : Bool) → length_fits (type_at slots p) (room_at slots p) n ≡ b → cond b (Ok (tt {0})) (Err fault.WrongLength) ≡ Ok (tt {0}) → CleanWord objects slots w
    length_is s n p f a q true l e = record { target = p; start = s; len = n; field = f; away = a; placed = q; fits = l }
    length_is s n p f a q false l e = let z : ◌≡◌ {A = ℕ} 0 1 = cc in absurd (omega arith)

    target_is : (s n : ℕ) → field_of (entry_of w) ≡ field_at s n → between 0x1200 0x12FF x ≡ false → (q : Result Place Missing) → place_of objects x (entry_of w).sub_index ≡ q → on_target slots n q ≡ (Ok tt) → CleanWord objects slots w
    target_is s n f a (Err m) q e = let z : ◌≡◌ {A = ℕ} 0 1 = cc in absurd (omega arith)
    target_is s n f a (Ok (Count k)) q e = let z : ◌≡◌ {A = ℕ} 0 1 = cc in absurd (omega arith)
    target_is s n f a (Ok (Value p)) q e = length_is s n p f a q (length_fits (type_at slots p) (room_at slots p) n) refl e

    range : (s n : ℕ) → field_of (entry_of w) ≡ field_at s n → (b : Bool) → between 0x1200 0x12FF x ≡ b → cond b (Err fault.HandOff) (on_target slots n (place_of objects x (entry_of w).sub_index)) ≡ (Ok tt) → CleanWord objects slots w
    range s n f true a e = let z : ◌≡◌ {A = ℕ} 0 1 = cc in absurd (omega arith)
    range s n f false a e = target_is s n f a (place_of objects x (entry_of w).sub_index) refl e

    fielded : (f : Option Field) → field_of (entry_of w) ≡ f → on_field objects slots (entry_of w) f ≡ (Ok tt) → CleanWord objects slots w
    fielded None f e = let z : ◌≡◌ {A = ℕ} 0 1 = cc in absurd (omega arith)
    fielded (Some v) f e = range v.start v.length f (between 0x1200 0x12FF x) refl e

pub clean_class : (objects slots : List ℕ) (w : ℕ) (c : CleanWord objects slots w) → class_of (aim_of objects w) ≡ class.Value c.start c.len c.target
clean_class objects slots w c = value_class (aim_of objects w) c.start c.len c.target (record { field = c.field; away = c.away; placed = c.placed })

-- ---- a length that fits is decoded, and has room
pub taken : (slots payload : List ℕ) (p start n : ℕ) → start + n ≤ length payload → length_fits (type_at slots p) (room_at slots p) n ≡ true → (type_at slots p ≡ 11 → judge (part payload start n) ≡ (Ok tt))
    → on_value slots p start n (word_at (type_at slots p) (part payload start n)) ≡ Stored p start n
unfolding word_at text_word
taken slots payload p start n h fits good = go (is_text t) refl
  where
    t : ℕ
    t = type_at slots p

    s : List ℕ
    s = part payload start n

    long : length s ≡ n
    long = part_length payload start n h

    string : (a : Bool) → eqb t 11 ≡ a → (b : Bool) → (eqb t 13 && eqb (n % 2) 1) ≡ b → not b ≡ true → is_text t ≡ true → ltb (room_at slots p) n ≡ false → on_value slots p start n (word_at t s) ≡ Stored p start n
    string true a b r u q l = let g = good (eqb-true t 11 a) in rw (q, a, g, q, l)
    string false a true r u q l = let z : ◌≡◌ {A = ℕ} 0 1 = cc in absurd (omega arith)
    string false a false r u q l = rw (q, a, long, r, q, l)

    go : (b : Bool) → is_text t ≡ b → on_value slots p start n (word_at t s) ≡ Stored p start n
    go true q =
        let f = and_true (leb n (room_at slots p)) _ (rw q at fits) in
        let l = le-ltb (room_at slots p) n (leb-true _ _ f.0) in
        string (eqb t 11) refl (eqb t 13 && eqb (n % 2) 1) refl f.1 q l
    go false q =
        let z : n ≡ size_of t = eqb-true _ _ (rw q at fits) in
        rw (q, le-ltb (length s) (size_of t) (omega (arith, z, long)), q)

pub clean_stored : (objects slots payload : List ℕ) (w : ℕ) (c : CleanWord objects slots w) → c.start + c.len ≤ length payload → TextAt objects slots payload w → outcome_of objects slots payload w ≡ Stored c.target c.start c.len
unfolding outcome_of
clean_stored objects slots payload w c h t =
    rw (clean_class objects slots w c, c.field, le-ltb (length payload) (c.start + c.len) h)
    (taken slots payload c.target c.start c.len h c.fits (t.good c.start c.len c.target (clean_class objects slots w c)))
