-- Putting an encoded value that its type takes, and that its room holds, keeps a dictionary well-formed.
-- Assumes nothing.
use Rattle.std.specs.Prelude.{Ok}
use mathlib.Core.Path.{◌≡◌, refl, sym, ap, ◌∙◌, subst}
use mathlib.Core.Bool.{Bool, true, false}
use mathlib.Core.List.{List, ◌++◌}
use Prim.Native.Nat.{ℕ, ◌+◌, ◌-◌, ◌*◌, ◌^◌, ◌<◌, ◌≤◌}
use native.Mathlib.Omega.{arith}
use borrow.Author.Tests.{le-leb, lt-ltb}
use lib.Dec.{leb, ltb}
use lib.ListN.{length, take, drop, length-append, length-drop}
use lib.Seq.{length-take-le, take-append_seam, get_or-set_same, get_or-set_other, set-get_or}
use Rattle.lists.specs.Lists.{over}
use Rattle.lists.specs.Numbers.{number, Bytes}
use Rattle.lists.proofs.ListLaws.{length_over, over-over, over-same, over-behind}
use Rattle.lists.proofs.NumberLaws.{number_lt, bytes_take}
use Rattle.value.specs.Codec.{is_text, size_of, takes, text_word, word_at}
use Rattle.value.proofs.CodecLaws.{text_taken, word_fixed}
use Rattle.entry.specs.Table.{Dict, dict, number_of, count_at, first_at, type_at, start_at, room_at}
use Rattle.entry.specs.Rules.{word_ok, val_ok}
use Rattle.entry.specs.Judge.{well_formed}
use Rattle.entry.specs.Put.{contents, filled, put_at, typed, put_new, put_as, Puts}
use Rattle.entry.proofs.PutLaws.{put_text, put_fixed, put_kept}
use Rattle.entry.proofs.ValueLaws.{Element, ValueFacts, value_facts}

-- ---- what a type takes
-- of a text or bytes its length
pub takes_text : (t : ℕ) (s : List ℕ) (w : ℕ) → is_text t ≡ true → word_at t s ≡ Ok w → (w ≡ length s) × (takes (text_word t s) ≡ true)
unfolding word_at
takes_text t s w e h =
    let a : text_word t s ≡ Ok w = rw e at h in
    let b : takes (text_word t s) ≡ true = ap takes a in
    let c : text_word t s ≡ Ok (length s) = text_taken t s b in
    (cc, b)

-- else the number of its first bytes, of which there are as many as the type has
pub takes_fixed : (t : ℕ) (s : List ℕ) (w : ℕ) → is_text t ≡ false → word_at t s ≡ Ok w → (size_of t ≤ length s) × (w ≡ number (take (size_of t) s))
takes_fixed t s w e h = word_fixed t w s h e

-- ---- what a value's type and room hold
pub record Fits (d : Dict) (p : ℕ) (s : List ℕ) (w : ℕ) : Type 0 where
  pub taken : word_at (type_at d.slots p) s ≡ Ok w
  pub room : is_text (type_at d.slots p) ≡ true → length s ≤ room_at d.slots p

-- that's all a put asks for
pub puts_of : (d : Dict) (p : ℕ) (s : List ℕ) (w : ℕ) → ValueFacts d p → Fits d p s w → Puts d.slots d.words d.bytes p s
puts_of d p s w f g =
    record {
      low = f.low;
      slot = f.slot;
      word = f.word;
      text = λ e. omega (arith, g.room e, f.within, f.bytes);
      fixed = λ e. (takes_fixed (type_at d.slots p) s w e g.taken).0;
    }

-- ---- the same of a value of another type
pub record FitsAs (d : Dict) (p t : ℕ) (s : List ℕ) (w : ℕ) : Type 0 where
  pub known : t ≤ 20
  pub taken : word_at t s ≡ Ok w
  pub room : is_text t ≡ true → length s ≤ room_at d.slots p

-- the slot with its new type
pub type_new : (d : Dict) (p t : ℕ) → 3 * p + 3 ≤ length d.slots → type_at (typed d p t).slots p ≡ t
type_new d p t h = get_or-set_same d.slots (3 * p) t 0 (omega arith)

pub start_new : (d : Dict) (p t q : ℕ) → start_at (typed d p t).slots q ≡ start_at d.slots q
start_new d p t q = get_or-set_other d.slots (3 * p) (3 * q + 1) t 0 (λ e. absurd (omega (arith, e)))

pub typed-same : (d : Dict) (p : ℕ) → typed d p (type_at d.slots p) ≡ d
typed-same d p = ap (λ s. dict d.objects s d.words d.bytes) (set-get_or d.slots (3 * p) 0)

-- ---- the put as one of a word and a room
-- a text's room: the text, and what stood behind it
abbrev rest : Dict → ℕ → List ℕ → List ℕ
rest d p s = take (room_at d.slots p - length s) (drop (start_at d.slots p + length s) d.bytes)

module _ (d : Dict) (p t : ℕ) (s : List ℕ) (w : ℕ) (f : ValueFacts d p) (g : FitsAs d p t s w) where
  new : type_at (typed d p t).slots p ≡ t
  new = type_new d p t f.slot

  module _ (e : is_text t ≡ true) where
    room_of_text : length (s ++ rest d p s) ≡ room_at d.slots p
    room_of_text =
        let n : room_at d.slots p - length s ≤ length (drop (start_at d.slots p + length s) d.bytes) = simp length-drop (omega (arith, g.room e, f.within, f.bytes)) in
        rw (length-append, length-take-le _ _ n) (omega (arith, g.room e))

    bytes_of_text : over d.bytes (start_at d.slots p) (s ++ rest d p s) ≡ over d.bytes (start_at d.slots p) s
    bytes_of_text =
        let a = start_at d.slots p in
        let n = room_at d.slots p - length s in
        let l : length (over d.bytes a s) ≡ length d.bytes = length_over d.bytes a s (omega (arith, g.room e, f.within, f.bytes)) in
        let b : drop (a + length s) (over d.bytes a s) ≡ drop (a + length s) d.bytes = over-behind d.bytes a s (a + length s) (omega arith) (omega (arith, f.within, f.bytes)) in
        sym (over-over d.bytes a s (a + length s) (rest d p s) refl (omega (arith, g.room e, f.within, f.bytes)))
        ∙ ap (λ z. over (over d.bytes a s) (a + length s) (take n z)) (sym b)
        ∙ over-same (over d.bytes a s) (a + length s) n (omega (arith, l, g.room e, f.within, f.bytes))

    put_as_text : put_new d p t s ≡ put_as p t w (s ++ rest d p s) d
    put_as_text =
        ap (filled (typed d p t)) (put_text (typed d p t).slots (contents d.words d.bytes) p s (ap is_text new ∙ e))
        ∙ rw (start_new d p t p, bytes_of_text, (takes_text t s w e g.taken).0)

    ok_text : val_ok t w (length (s ++ rest d p s)) (s ++ rest d p s) ≡ true
    unfolding val_ok word_ok
    ok_text =
        let k = takes_text t s w e g.taken in
        let a : leb t 20 ≡ true = le-leb _ _ g.known in
        let b : leb (room_at d.slots p) 1490 ≡ true = le-leb _ _ f.room in
        let c : leb (length s) (room_at d.slots p) ≡ true = le-leb _ _ (g.room e) in
        rw (room_of_text, a, b, e, k.0, c, take-append_seam s (rest d p s)) k.1

  module _ (b : Bytes s) (e : is_text t ≡ false) where
    abbrev old : List ℕ
    old = take (room_at d.slots p) (drop (start_at d.slots p) d.bytes)

    room_of_fixed : length old ≡ room_at d.slots p
    room_of_fixed =
        length-take-le (room_at d.slots p) (drop (start_at d.slots p) d.bytes) (simp length-drop (omega (arith, f.within, f.bytes)))

    put_as_fixed : put_new d p t s ≡ put_as p t w old d
    put_as_fixed =
        ap (filled (typed d p t)) (put_fixed (typed d p t).slots (contents d.words d.bytes) p s (ap is_text new ∙ e))
        ∙ rw (over-same d.bytes (start_at d.slots p) (room_at d.slots p) (omega (arith, f.within, f.bytes)), new, (takes_fixed t s w e g.taken).1)

    ok_fixed : val_ok t w (length old) old ≡ true
    unfolding val_ok word_ok
    ok_fixed =
        let k = takes_fixed t s w e g.taken in
        let n = size_of t in
        let l : length (take n s) ≡ n = length-take-le n s k.0 in
        let m : number (take n s) < 2 ^ (8 * n) = rw l at (number_lt (take n s) (bytes_take n s b)) in
        let x : leb t 20 ≡ true = le-leb _ _ g.known in
        let y : leb (room_at d.slots p) 1490 ≡ true = le-leb _ _ f.room in
        let z : ltb w (2 ^ (8 * n)) ≡ true = rw k.1 (lt-ltb _ _ m) in
        rw (room_of_fixed, x, y, e) z

-- so it is a put of a word that keeps the rules, and of a room of the same size
pub record AsPut (d : Dict) (p t : ℕ) (s : List ℕ) (w : ℕ) : Type 0 where
  pub room : List ℕ
  pub long : length room ≡ room_at d.slots p
  pub same : put_new d p t s ≡ put_as p t w room d
  pub ok : val_ok t w (length room) room ≡ true

pub as_put : (d : Dict) (p t : ℕ) (s : List ℕ) (w : ℕ) → ValueFacts d p → FitsAs d p t s w → Bytes s → AsPut d p t s w
as_put d p t s w f g b = go (is_text t) refl
  where
    go : (x : Bool) → is_text t ≡ x → AsPut d p t s w
    go true q = record { room = s ++ rest d p s; long = room_of_text d p t s w f g q; same = put_as_text d p t s w f g q; ok = ok_text d p t s w f g q }
    go false q =
        record { room = old d p t s w f g b q; long = room_of_fixed d p t s w f g b q; same = put_as_fixed d p t s w f g b q; ok = ok_fixed d p t s w f g b q }

-- ---- the theorem: a value of whatever type, at any element
pub new_data : (d : Dict) (i k t : ℕ) (s : List ℕ) → well_formed d ≡ true → i < number_of d.objects → k < count_at d.objects i → Bytes s → (w : ℕ)
    → FitsAs d (first_at d.objects i + k) t s w → well_formed (put_new d (first_at d.objects i + k) t s) ≡ true
new_data d i k t s e hi hk b w g =
    let a = as_put d (first_at d.objects i + k) t s w (value_facts d e i k hi (omega arith)) g b in
    rw a.same (put_kept d i k t w a.room e hi hk a.long a.ok)

-- and of the type that it has
pub put_data : (d : Dict) (i k : ℕ) (s : List ℕ) → well_formed d ≡ true → i < number_of d.objects → k < count_at d.objects i → Bytes s → (w : ℕ)
    → word_at (type_at d.slots (first_at d.objects i + k)) s ≡ Ok w → (is_text (type_at d.slots (first_at d.objects i + k)) ≡ true → length s ≤ room_at d.slots (first_at d.objects i + k))
    → well_formed (put_at d (first_at d.objects i + k) s) ≡ true
put_data d i k s e hi hk b w t r =
    let p = first_at d.objects i + k in
    let f = value_facts d e i k hi (omega arith) in
    subst (λ (z : Dict). well_formed (put_at z p s) ≡ true) (typed-same d p) (new_data d i k (type_at d.slots p) s e hi hk b w (record { known = f.type; taken = t; room = r }))

-- and of what a lookup names
pub put_element : (d : Dict) {x sub p : ℕ} (s : List ℕ) → well_formed d ≡ true → Element d x sub p → Bytes s → (w : ℕ) → Fits d p s w → well_formed (put_at d p s) ≡ true
put_element d {x} {sub} {p} s e o b w g = go p o.place g
  where
    go : (q : ℕ) → q ≡ first_at d.objects o.row + o.k → Fits d q s w → well_formed (put_at d q s) ≡ true
    go q h f =
        let f' : Fits d (first_at d.objects o.row + o.k) s w = subst (λ n. Fits d n s w) h f in
        rw h (put_data d o.row o.k s e o.below o.inside b w f'.taken f'.room)
