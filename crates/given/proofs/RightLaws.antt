-- What is judged of the given object from left to right is what `right_in` says of it, and what follows for the act.
-- Assumes nothing.
use Rattle.std.specs.Prelude.{Option, Some, None, Ok, Err}
use mathlib.Core.Path.{◌≡◌, refl, sym, ap, ◌∙◌, subst}
use mathlib.Core.Bool.{Bool, true, false, cond, ◌&&◌, ◌||◌}
use mathlib.Core.List.{List, []}
use Prim.Native.Nat.{ℕ, zero, suc, ◌+◌, ◌-◌, ◌*◌, ◌^◌, ◌<◌, ◌≤◌}
use native.Mathlib.Nat.{add-zero, zero-add}
use native.Mathlib.Omega.{arith}
use native.Mathlib.Decide.{dec_lt, dec_le, ℕ_discrete}
use borrow.Author.Tests.{eqb-true, leb-true, ne_eqb, le-leb, lt-leb, lt-ltb, le-ltb}
use lib.Dec.{eqb, leb, ltb, T}
use lib.ListN.{length, take, drop, replicate, length-drop}
use lib.Seq.{take_at, length-take-le, take-length}
use Rattle.text.specs.Machine.{judge}
use Rattle.lists.specs.Numbers.{number, Bytes}
use Rattle.lists.proofs.NumberLaws.{number_lt}
use Rattle.value.specs.Codec.{size_of, is_text, fits_type, takes, text_word, word_at, exact}
use Rattle.value.specs.declared.CodecFault.TheVariants.{Value}
use Rattle.value.proofs.CodecLaws.{size_le, text_taken, exact_none, exact_text, exact_fixed}
use Rattle.entry.specs.Model.{Val, used, size}
use Rattle.entry.specs.Rules.{is_good, word_ok, val_ok, tight, held_ok, vals_ok, head_ok, range_ok, extra_ok, obj_ok}
use Rattle.entry.proofs.JudgeLaws.{and_true, head_ok_lem}
use Rattle.entry.proofs.WalkLaws.{and_unit}
use Rattle.given.specs.Given.{type_in, room_in, length_in, word_in, held, room_of, val_in, given, rooms_in, lengths_in, count_in, obj_in, sized, sized_in, range_in, right_in, size_in, value_ok, vals_in, Values}
use Rattle.given.specs.declared.Head.{Head}
use Rattle.given.proofs.GivenLaws.{length-room_of, room_of_is, given-length, size_is}

-- ---- one value
-- a string in its own room is itself
take-room : (r : ℕ) (s : List ℕ) → length s ≤ r → take (length s) (room_of r s) ≡ s
take-room r s h = ap (take (length s)) (room_of_is r s h) ∙ take_at s (replicate {A = ℕ} (r - length s) 0) (length s) refl

pub value_big : (e : Bool) (t r : ℕ) (s : List ℕ) → 20 < t → value_ok e t r s ≡ false
unfolding value_ok val_ok
value_big e t r s h = rw (lt-leb t 20 h) (none (sized t (length s)))
  where
    none : (a : Bool) → (a && false) ≡ false
    none true = refl
    none false = refl

pub value_wide : (e : Bool) (t r : ℕ) (s : List ℕ) → 1490 < r → value_ok e t r s ≡ false
unfolding value_ok val_ok
value_wide e t r s h = rw (lt-leb r 1490 h) (none (sized t (length s)) (leb t 20))
  where
    none : (a b : Bool) → (a && ((b && false) && (e || tight t (word_in t s) r))) ≡ false
    none true true = refl
    none true false = refl
    none false b = refl

text_small : (t : ℕ) → is_text t ≡ true → t ≤ 20
text_small t e = let h : t ≤ 14 = leb-true _ _ (and_true (leb 11 t) (leb t 14) e).1 in omega arith

pub value_text : (e : Bool) (t r : ℕ) (s : List ℕ) → is_text t ≡ true → r ≤ 1490 → value_ok e t r s ≡ (leb (length s) r && takes (text_word t s)) && (e || eqb r (length s))
unfolding value_ok val_ok word_ok
value_text e t r s x h = rw (x, le-leb t 20 (text_small t x), le-leb r 1490 h) (go (leb (length s) r) refl)
  where
    go : (y : Bool) → leb (length s) r ≡ y → ((leb (length s) r && takes (text_word t (take (length s) (room_of r s)))) && (e || eqb r (length s))) ≡ ((leb (length s) r && takes (text_word t s)) && (e || eqb r (length s)))
    go true q = rw (take-room r s (leb-true _ _ q))
    go false q = rw q

pub value_fixed : (e : Bool) (t r : ℕ) (s : List ℕ) → is_text t ≡ false → t ≤ 20 → r ≤ 1490 → Bytes s → value_ok e t r s ≡ eqb (length s) (size_of t) && (e || eqb r 0)
unfolding value_ok val_ok word_ok
value_fixed e t r s x k h b = rw (x, le-leb t 20 k, le-leb r 1490 h) (go (eqb (length s) (size_of t)) refl)
  where
    go : (y : Bool) → eqb (length s) (size_of t) ≡ y → (eqb (length s) (size_of t) && (fits_type t (number s) && (e || eqb r 0))) ≡ (eqb (length s) (size_of t) && (e || eqb r 0))
    go true q =
        let f : number s < 2 ^ (8 * size_of t) = rw (eqb-true (length s) (size_of t) q) at (number_lt s b) in
        rw (lt-ltb (number s) (2 ^ (8 * size_of t)) f)
    go false q = rw q

-- R3.4 is `exact`, of what insertion is given too: the parts of `value_ok` say no more of the value
pub value-exact : (e : Bool) (t r : ℕ) (s : List ℕ) → Bytes s → value_ok e t r s ≡ (exact t s && (leb r 1490 && (leb (cond (is_text t) (length s) 0) r && (e || eqb r (cond (is_text t) (length s) 0)))))
value-exact e t r s b = known (dec_lt 20 t) (dec_lt 1490 r)
  where
    none : (a : Bool) → (a && false) ≡ false
    none true = refl
    none false = refl

    string : (a v o : Bool) → ((a && v) && o) ≡ (v && (a && o))
    string true v o = refl
    string false true o = refl
    string false false o = refl

    typed : t ≤ 20 → r ≤ 1490 → (x : Bool) → is_text t ≡ x → value_ok e t r s ≡ (exact t s && (leb r 1490 && (leb (cond (is_text t) (length s) 0) r && (e || eqb r (cond (is_text t) (length s) 0)))))
    typed k h true x = value_text e t r s x h ∙ rw (exact_text t s k x, x, le-leb r 1490 h) (string (leb (length s) r) (takes (text_word t s)) (e || eqb r (length s)))
    typed k h false x = value_fixed e t r s x k h b ∙ rw (exact_fixed t s k x, x, le-leb r 1490 h, le-leb 0 r (omega arith))

    known : Dec (20 < t) → Dec (1490 < r) → value_ok e t r s ≡ (exact t s && (leb r 1490 && (leb (cond (is_text t) (length s) 0) r && (e || eqb r (cond (is_text t) (length s) 0)))))
    known (yes h) w = value_big e t r s h ∙ sym (rw (exact_none t s h))
    known (no h) (yes w) = value_wide e t r s w ∙ sym (rw (lt-leb r 1490 w) (none (exact t s)))
    known (no h) (no w) = typed (omega arith) (omega arith) (is_text t) refl

value-sized : (e : Bool) (t r : ℕ) (s : List ℕ) → is_text t ≡ false → value_ok e t r s ≡ true → eqb (length s) (size_of t) ≡ true
unfolding value_ok
value-sized e t r s x q = rw x at (and_true (sized t (length s)) _ q).0

-- ---- the walk
pub vals_step : (vals encodings : List ℕ) (c u j t g : ℕ) → j < u → vals_in vals encodings c (u - j) j t g ≡ cond (leb (length_in vals j) (length encodings - t) && value_ok (ltb j c) (type_in vals j) (room_in vals j) (take (length_in vals j) (drop t encodings))) (vals_in vals encodings c (u - (j + 1)) (j + 1) (t + length_in vals j) (g + room_in vals j)) None
unfolding vals_in
vals_step vals encodings c u j t g h =
    let e : u - j ≡ suc (u - (j + 1)) = omega arith in
    let q : j + 1 ≡ suc j = omega arith in
    rw (e, q)

pub vals_end : (vals encodings : List ℕ) (c k j t g : ℕ) → k ≡ 0 → vals_in vals encodings c k j t g ≡ cond (eqb t (length encodings)) (Some g) None
unfolding vals_in
vals_end vals encodings c k j t g e = rw e

pub value_room : (e : Bool) (t r : ℕ) (s : List ℕ) → value_ok e t r s ≡ true → r ≤ 1490
value_room e t r s q = go (dec_le r 1490)
  where
    go : Dec (r ≤ 1490) → r ≤ 1490
    go (yes h) = h
    go (no h) = absurd (subst T (sym q ∙ value_wide e t r s (omega arith)) tt)

-- ---- all of them
left_some : (c j : ℕ) → ltb j c ≡ ltb 0 (c - j)
left_some c j = go (dec_lt j c)
  where
    go : Dec (j < c) → ltb j c ≡ ltb 0 (c - j)
    go (yes h) = rw (lt-ltb j c h, lt-ltb 0 (c - j) (omega arith))
    go (no h) = let l : c ≤ j = omega arith in let z : c - j ≤ 0 = omega arith in rw (le-ltb j c l, le-ltb 0 (c - j) z)

turn : (x a b s w o : Bool) (p q : Option ℕ) → (x ≡ false → a ≡ false) → p ≡ cond (a && (b && o)) q None → cond (x && (s && w)) p None ≡ cond (a && ((s && b) && (w && o))) q None
turn true a b true true o p q h e = e
turn true true true true false o p q h e = refl
turn true true false true false o p q h e = refl
turn true false b true false o p q h e = refl
turn true true b false w o p q h e = refl
turn true false b false w o p q h e = refl
turn false a b s w o p q h e = rw (h refl)

value-held : (c j n t r : ℕ) (s : List ℕ) → length s ≡ n → value_ok (ltb j c) t r s ≡ sized t n && held_ok (c - j) t (word_in t s) (length (room_of r (held t s))) (room_of r (held t s))
unfolding value_ok held_ok
value-held c j n t r s e = rw (length-room_of r (held t s), left_some c j, e)

pub vals_right : (vals encodings : List ℕ) (c k j t g : ℕ) → vals_in vals encodings c k j t g ≡ cond (eqb (t + lengths_in vals k j) (length encodings) && (sized_in vals k j && vals_ok (c - j) (given vals encodings k j t))) (Some (g + rooms_in vals k j)) None
unfolding vals_in lengths_in sized_in given vals_ok rooms_in
vals_right vals encodings c zero j t g = rw (add-zero t, add-zero g, and_unit (eqb t (length encodings)))
vals_right vals encodings c (suc k) j t g =
    let n = length_in vals j in
    let r = room_in vals j in
    let e₁ : (t + n) + lengths_in vals k (suc j) ≡ t + (n + lengths_in vals k (suc j)) = omega arith in
    let e₂ : (g + r) + rooms_in vals k (suc j) ≡ g + (r + rooms_in vals k (suc j)) = omega arith in
    let e₃ : c - suc j ≡ (c - j) - 1 = omega arith in
    go (rw (e₁, e₂, e₃) at (vals_right vals encodings c k (suc j) (t + n) (g + r))) (dec_le n (length encodings - t))
  where
    n : ℕ
    n = length_in vals j

    s : List ℕ
    s = take (length_in vals j) (drop t encodings)

    x : Val
    x = val_in (type_in vals j) (room_in vals j) s

    a : Bool
    a = eqb (t + (n + lengths_in vals k (suc j))) (length encodings)

    b : Bool
    b = sized_in vals k (suc j)

    o : Bool
    o = vals_ok ((c - j) - 1) (given vals encodings k (suc j) (t + n))

    q : Option ℕ
    q = Some (g + (room_in vals j + rooms_in vals k (suc j)))

    p : Option ℕ
    p = vals_in vals encodings c k (suc j) (t + n) (g + room_in vals j)

    go : p ≡ cond (a && (b && o)) q None → Dec (n ≤ length encodings - t)
        → cond (leb n (length encodings - t) && value_ok (ltb j c) (type_in vals j) (room_in vals j) s) p None ≡ cond (a && ((sized (type_in vals j) n && b) && (held_ok (c - j) x.type x.word (length x.room) x.room && o))) q None
    go ih (yes h) =
        let l : length s ≡ n = length-take-le n (drop t encodings) (rw length-drop (omega arith)) in
        rw (value-held c j n (type_in vals j) (room_in vals j) s l)
        (turn (leb n (length encodings - t)) a b (sized (type_in vals j) n) (held_ok (c - j) x.type x.word (length x.room) x.room) o p q (λ f. absurd (subst T (sym (le-leb n (length encodings - t) h) ∙ f) tt)) ih)
    go ih (no h) =
        let f : t + (n + lengths_in vals k (suc j)) ≡ length encodings → ⊥ = λ e. omega arith in
        rw (lt-leb n (length encodings - t) (omega arith), ne_eqb (t + (n + lengths_in vals k (suc j))) (length encodings) f)

-- ---- the whole object
none : (a b : Bool) → (a && (b && false)) ≡ false
none true true = refl
none true false = refl
none false b = refl

-- m the words add up, a and b the encodings, y the range's types agree, h the head, f the default, n the name, x the range, v the values
judged : (m a b y h f n x v : Bool) (p q : Option ℕ) → p ≡ cond (a && (b && v)) q None
    → cond (m && (a && (b && (y && (h && (f && (n && (x && v)))))))) q None ≡ cond m (cond f (cond h (cond n (cond (y && x) p None) None) None) None) None
judged false a b y h f n x v p q e = refl
judged true a b false h f n x v p q e = rw (none a b) (bad h f n)
  where
    bad : (h f n : Bool) → ◌≡◌ {A = Option ℕ} None (cond f (cond h (cond n None None) None) None)
    bad h false n = refl
    bad false true n = refl
    bad true true false = refl
    bad true true true = refl
judged true a b true false false n x v p q e = rw (none a b)
judged true a b true true false n x v p q e = rw (none a b)
judged true a b true false true n x v p q e = rw (none a b)
judged true a b true true true false x v p q e = rw (none a b)
judged true a b true true true true false v p q e = rw (none a b)
judged true a b true true true true true v p q e = sym e

pub size_judged : (h : Head) (name vals encodings : List ℕ) → let u = count_in vals in
    size_in h name vals encodings ≡ cond (eqb (3 * u) (length vals)) (cond (leb h.default u) (cond (head_ok h.index h.kind h.access (u - h.default) h.default (length name)) (cond (is_good (judge name)) (cond (range_in h) (vals_in vals encodings (u - h.default) u 0 0 (length name)) None) None) None) None) None
unfolding right_in extra_ok
size_judged h name vals encodings =
    let u = count_in vals in
    let c = u - h.default in
    let z : c - 0 ≡ c = omega arith in
    let i = rw (zero-add (lengths_in vals u 0), z) at (vals_right vals encodings c u 0 0 (length name)) in
    rw (size_is h name vals encodings, given-length vals encodings u 0 0, le-leb c c (omega arith))
    (judged (eqb (3 * u) (length vals)) (eqb (lengths_in vals u 0) (length encodings)) (sized_in vals u 0) (eqb h.low_type h.high_type) (head_ok h.index h.kind h.access c h.default (length name)) (leb h.default u) (is_good (judge name)) (range_ok h.low_type h.low h.high) (vals_ok c (given vals encodings u 0 0)) (vals_in vals encodings c u 0 0 (length name)) (Some (length name + rooms_in vals u 0)) i)

-- ---- what the act needs
record Fit (t r n : ℕ) : Type 0 where
  held : cond (is_text t) n 0 ≤ r
  short : is_text t ≡ false → n ≤ 8
  room : r ≤ 1490

fit : (t r n : ℕ) (s : List ℕ) → length s ≡ n → sized t n ≡ true → val_ok t (word_in t s) (length (room_of r (held t s))) (room_of r (held t s)) ≡ true → Fit t r n
unfolding val_ok word_ok
fit t r n s l z e =
    let a = and_true (leb t 20) _ (rw (length-room_of r (held t s)) at e) in
    let b = and_true (leb r 1490) _ a.1 in
    record { held = within (is_text t) b.1; short = λ f. small f z; room = leb-true _ _ b.0 }
  where
    within : (x : Bool) → cond x (leb (cond x (length s) (number s)) r && takes (text_word t (take (cond x (length s) (number s)) (room_of r (cond x s []))))) (fits_type t (cond x (length s) (number s))) ≡ true → cond x n 0 ≤ r
    within true q = let w : length s ≤ r = leb-true _ _ (and_true (leb (length s) r) _ q).0 in omega arith
    within false q = omega arith

    small : is_text t ≡ false → (is_text t || eqb n (size_of t)) ≡ true → n ≤ 8
    small f q = let w : n ≡ size_of t = eqb-true _ _ (rw f at q) in omega (arith, size_le t)

record Fits (vals : List ℕ) (k j : ℕ) : Type 0 where
  each : (i : ℕ) → j ≤ i → i < j + k → Fit (type_in vals i) (room_in vals i) (length_in vals i)
  small : rooms_in vals k j ≤ 1490 * k

all_fit : (vals encodings : List ℕ) (n k j t : ℕ) → t + lengths_in vals k j ≤ length encodings → sized_in vals k j ≡ true → vals_ok n (given vals encodings k j t) ≡ true → Fits vals k j
unfolding lengths_in sized_in given vals_ok held_ok rooms_in
all_fit vals encodings n zero j t h z e = record { each = λ i a b. absurd (omega arith); small = omega arith }
all_fit vals encodings n (suc k) j t h z e =
    let s = take (length_in vals j) (drop t encodings) in
    let y = and_true (sized (type_in vals j) (length_in vals j)) (sized_in vals k (suc j)) z in
    let x = and_true _ (vals_ok (n - 1) (given vals encodings k (suc j) (t + length_in vals j))) e in
    let l : length s ≡ length_in vals j = length-take-le (length_in vals j) (drop t encodings) (rw length-drop (omega arith)) in
    let f = fit (type_in vals j) (room_in vals j) (length_in vals j) s l y.0 (and_true _ _ x.0).0 in
    let i = all_fit vals encodings (n - 1) k (suc j) (t + length_in vals j) (omega arith) y.1 x.1 in
    record { each = λ q a b. at q a b f i.each (ℕ_discrete q j); small = omega (arith, i.small, f.room) }
  where
    at : (q : ℕ) → j ≤ q → q < j + suc k → Fit (type_in vals j) (room_in vals j) (length_in vals j) → ((i : ℕ) → suc j ≤ i → i < suc j + k → Fit (type_in vals i) (room_in vals i) (length_in vals i)) → Dec (q ≡ j) → Fit (type_in vals q) (room_in vals q) (length_in vals q)
    at q a b f g (yes e) = rw e f
    at q a b f g (no e) = g q (omega arith) (omega arith)

pub record Right (h : Head) (name vals encodings : List ℕ) : Type 0 where
  pub ok : obj_ok (obj_in h name vals encodings) ≡ true
  pub values : Values vals encodings (count_in vals)
  pub flagged : h.default ≤ count_in vals
  pub small : size (obj_in h name vals encodings) ≤ 400000

pub right : (h : Head) (name vals encodings : List ℕ) → right_in h name vals encodings ≡ true → Right h name vals encodings
unfolding right_in
right h name vals encodings e =
    let u = count_in vals in
    let o = obj_in h name vals encodings in
    let a = and_true (eqb (3 * u) (length vals)) _ e in
    let b = and_true (eqb (lengths_in vals u 0) (length encodings)) _ a.1 in
    let y = and_true (sized_in vals u 0) _ b.1 in
    let c = and_true (eqb h.low_type h.high_type) (obj_ok o) y.1 in
    let f = and_true (head_ok h.index h.kind h.access (used o - h.default) h.default (length name)) _ c.1 in
    let g = and_true (leb h.default (used o)) _ f.1 in
    let v = and_true (is_good (judge name)) _ g.1 in
    let x = and_true (extra_ok (used o - h.default) o.extra) _ v.1 in
    let k = head_ok_lem h.index h.kind h.access (used o - h.default) h.default (length name) f.0 in
    let n = given-length vals encodings u 0 0 in
    let w : lengths_in vals u 0 ≡ length encodings = eqb-true _ _ b.0 in
    let m : 3 * u ≡ length vals = eqb-true _ _ a.0 in
    let d : h.default ≤ used o = leb-true _ _ g.0 in
    let i = all_fit vals encodings (used o - h.default) u 0 0 (omega arith) y.0 x.1 in
    let few : u ≤ 255 = omega (arith, k.count_small, k.flag_small) in
    record {
      ok = c.1;
      values = record {
        few = few;
        long = omega arith;
        encoded = omega arith;
        within = λ j l. (i.each j (omega arith) (omega arith)).held;
        short = λ j l. (i.each j (omega arith) (omega arith)).short;
      };
      flagged = omega arith;
      small = omega (arith, size_is h name vals encodings, i.small, k.len_small);
    }

-- ---- the theorem on values: the word that is stored is what decoding the encoding gives
pub decodes : (e : Bool) (t r : ℕ) (s : List ℕ) → value_ok e t r s ≡ true → word_at t s ≡ Ok (word_in t s)
unfolding word_at
decodes e t r s q = go (is_text t) refl
  where
    go : (x : Bool) → is_text t ≡ x → cond (is_text t) (text_word t s) (cond (ltb (length s) (size_of t)) (Err (Value (size_of t) (length s))) (Ok (number (take (size_of t) s)))) ≡ Ok (word_in t s)
    go true x =
        let a = and_true (leb (length s) r && takes (text_word t s)) _ (sym (value_text e t r s x (value_room e t r s q)) ∙ q) in
        rw x (text_taken t s (and_true (leb (length s) r) _ a.0).1)
    go false x =
        let n : length s ≡ size_of t = eqb-true (length s) (size_of t) (value-sized e t r s x q) in
        rw (x, ← n, le-ltb (length s) (length s) (omega arith), take-length s)
