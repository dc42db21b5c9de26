-- Dictionaries that differ in their edition, their kept counts or their ranges alone have the same first match, expected version and right
-- versions, and a mapping word comes to the same outcome in them.
-- Assumes nothing.
use Rattle.std.specs.Prelude.{Option, Some, None, Result, Ok, Err}
use Rattle.mapping.specs.declared.Field.{Field}
use Prim.Native.Nat.{ℕ, zero, suc}
use mathlib.Core.Path.{◌≡◌, refl, sym, ap, ◌∙◌}
use mathlib.Core.Bool.{cond}
use mathlib.Core.List.{List}
use Rattle.mapping.specs.Word.{entry_of, field_of}
use Rattle.entry.specs.Table.{dict}
use Rattle.entry.specs.Find.{place_of}
use Rattle.entry.specs.Same.{SameRows, uncounted}
use Rattle.entry.specs.declared.Place.{Place}
use Rattle.entry.specs.declared.Place.TheVariants.{Count, Value}
use Rattle.entry.specs.declared.Missing.{Missing}
use Rattle.entry.proofs.SameLaws.{place-uncounted}
use Rattle.aim.specs.Aims.{class_in, class_of}
use Rattle.pdo_step.specs.Outcomes.{inside, on_class, outcome_of}
use Rattle.pdo_channel.specs.Channel.{u8_in, u8_at, comm_index, channel_from, first_match, or_zero, expected_of, right_version}

-- ---- a number that a record holds
u8_uncounted : (a b s w y : List ℕ) (q : Result Place Missing) → u8_in (dict a s w y) q ≡ u8_in (dict b s w y) (uncounted q)
u8_uncounted a b s w y (Err m) = refl
u8_uncounted a b s w y (Ok (Count n)) = refl
u8_uncounted a b s w y (Ok (Value p)) = refl

pub u8_same : {a b : List ℕ} → SameRows a b → (s w y : List ℕ) (x sub : ℕ) → u8_at (dict a s w y) x sub ≡ u8_at (dict b s w y) x sub
u8_same {a} {b} h s w y x sub =
    u8_uncounted a b s w y (place_of a x sub) ∙ ap (u8_in (dict b s w y)) (place-uncounted h x sub) ∙ sym (u8_uncounted b b s w y (place_of b x sub))

-- ---- matching
channel_same : {a b : List ℕ} → SameRows a b → (s w y : List ℕ) (sender n i : ℕ) → channel_from (dict a s w y) sender n i ≡ channel_from (dict b s w y) sender n i
unfolding channel_from
channel_same h s w y sender zero i = refl
channel_same h s w y sender (suc n) i = rw (u8_same h s w y (comm_index i) 1) (rw (channel_same h s w y sender n (suc i)) refl)

pub match_same : {a b : List ℕ} → SameRows a b → (s w y : List ℕ) (sender : ℕ) → first_match (dict a s w y) sender ≡ first_match (dict b s w y) sender
match_same h s w y sender = channel_same h s w y sender 256 0

-- ---- versions
pub expected_same : {a b : List ℕ} → SameRows a b → (s w y : List ℕ) (i : ℕ) → expected_of (dict a s w y) i ≡ expected_of (dict b s w y) i
expected_same h s w y i = ap or_zero (u8_same h s w y (comm_index i) 2)

pub version_same : {a b : List ℕ} → SameRows a b → (s w y : List ℕ) (i version : ℕ) → right_version (expected_of (dict a s w y) i) version ≡ right_version (expected_of (dict b s w y) i) version
version_same h s w y i version = ap (λ e. right_version e version) (expected_same h s w y i)

-- ---- stepping
class_uncounted : (x : ℕ) (q : Result Place Missing) (f : Option Field) → class_in x q f ≡ class_in x (uncounted q) f
class_uncounted x q None = refl
class_uncounted x (Err m) (Some v) = refl
class_uncounted x (Ok (Count k)) (Some v) = refl
class_uncounted x (Ok (Value p)) (Some v) = refl

pub outcome_same : {a b : List ℕ} → SameRows a b → (s payload : List ℕ) (w : ℕ) → outcome_of a s payload w ≡ outcome_of b s payload w
unfolding outcome_of class_of
outcome_same {a} {b} h s payload w =
    let e = entry_of w in
    let x = e.index in
    let f = field_of e in
    ap (λ c. inside payload f (on_class s payload x c))
    (class_uncounted x (place_of a x e.sub_index) f
    ∙ ap (λ q. class_in x q f) (place-uncounted h x e.sub_index) ∙ sym (class_uncounted x (place_of b x e.sub_index) f))
