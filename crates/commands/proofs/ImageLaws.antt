-- The image's parts: how long they are, and what two tables back to back have.
-- Assumes nothing.
use mathlib.Core.Path.{◌≡◌, refl, sym, ap, ◌∙◌}
use mathlib.Core.List.{List, [], ◌∷◌, ◌++◌, append_assoc}
use Prim.Native.Nat.{ℕ, ◌+◌, ◌*◌, ◌≤◌}
use native.Mathlib.Nat.{add-zero}
use native.Mathlib.Omega.{arith}
use lib.ListN.{length, length-append}
use Rattle.lists.specs.Lists.{over}
use Rattle.lists.specs.Numbers.{bytes_of}
use Rattle.lists.proofs.ListLaws.{length_over, over_none, over-over, over_comm, lay_two, lay_next}
use Rattle.lists.proofs.NumberLaws.{length-bytes_of}
use Rattle.image.specs.Image.{Rec, head_of, heads, bodies, image_of}
use Rattle.commands.specs.Save.{recs_laid}

-- ---- lengths
pub length_head : (index sub type start len : ℕ) → length (head_of index sub type start len) ≡ 8
length_head index sub type start len =
    simp (length-append, length-bytes_of)

pub length-heads : (s : ℕ) (rs : List Rec) → length (heads s rs) ≡ 8 * length rs
unfolding heads
length-heads s [] = refl
length-heads s (r ∷ rs) =
    length-append (head_of r.index r.sub r.type s (length r.body)) (heads (s + length r.body) rs)
    ∙ omega (arith, length_head r.index r.sub r.type s (length r.body), length-heads (s + length r.body) rs)

-- R10.5
pub length-image : (rs : List Rec) → length (image_of rs) ≡ 2 + 8 * length rs + length (bodies rs)
unfolding image_of
length-image rs = simp (length-append, length-bytes_of) (omega (arith, length-heads 0 rs))

-- "that of an empty table is 00 00"
pub image_none : image_of [] ≡ 0 ∷ 0 ∷ []
unfolding image_of heads bodies bytes_of
image_none = refl

-- ---- two tables back to back
pub bodies-append : (xs ys : List Rec) → bodies (xs ++ ys) ≡ bodies xs ++ bodies ys
unfolding bodies
bodies-append [] ys = refl
bodies-append (r ∷ xs) ys = rw (bodies-append xs ys) (sym (append_assoc r.body (bodies xs) (bodies ys)))

pub length-bodies : (xs ys : List Rec) → length (bodies (xs ++ ys)) ≡ length (bodies xs) + length (bodies ys)
length-bodies xs ys = ap length (bodies-append xs ys) ∙ length-append (bodies xs) (bodies ys)

pub heads-append : (s : ℕ) (xs ys : List Rec) → heads s (xs ++ ys) ≡ heads s xs ++ heads (s + length (bodies xs)) ys
unfolding heads bodies
heads-append s [] ys = rw add-zero
heads-append s (r ∷ xs) ys =
    let h = head_of r.index r.sub r.type s (length r.body) in
    let e : s + length r.body + length (bodies xs) ≡ s + length (r.body ++ bodies xs) = rw length-append (omega arith) in
    rw (heads-append (s + length r.body) xs ys, e) (sym (append_assoc h (heads (s + length r.body) xs) (heads (s + length (r.body ++ bodies xs)) ys)))

-- ---- laid one behind the other
-- the five numbers of a record
pub head_laid : (s : List ℕ) {s₁ s₂ s₃ s₄ s₅ : List ℕ} (a index sub type start len : ℕ) → a + 8 ≤ length s
    → s₁ ≡ over s a (bytes_of 2 index) → s₂ ≡ over s₁ (a + 2) (bytes_of 1 sub) → s₃ ≡ over s₂ (a + 3) (bytes_of 1 type) → s₄ ≡ over s₃ (a + 4) (bytes_of 2 start) → s₅ ≡ over s₄ (a + 6) (bytes_of 2 len)
    → s₅ ≡ over s a (head_of index sub type start len)
head_laid s {s₁} {s₂} {s₃} {s₄} {s₅} a index sub type start len h e₁ e₂ e₃ e₄ e₅ =
    let y₄ = bytes_of 2 start ++ bytes_of 2 len in
    let y₃ = bytes_of 1 type ++ y₄ in
    let f₁ = lay_next s a (bytes_of 2 index) (bytes_of 1 sub ++ y₃) (a + 2) e₁ (omega (arith, length-bytes_of 2 index)) (omega arith) in
    let f₂ = lay_next s₁ (a + 2) (bytes_of 1 sub) y₃ (a + 3) e₂ (omega (arith, length-bytes_of 1 sub)) (omega (arith, f₁.1)) in
    let f₃ = lay_next s₂ (a + 3) (bytes_of 1 type) y₄ (a + 4) e₃ (omega (arith, length-bytes_of 1 type)) (omega (arith, f₁.1, f₂.1)) in
    let f₄ = lay_next s₃ (a + 4) (bytes_of 2 start) (bytes_of 2 len) (a + 6) e₄ (omega (arith, length-bytes_of 2 start)) (omega (arith, f₁.1, f₂.1, f₃.1)) in
    e₅ ∙ sym (f₁.0 ∙ f₂.0 ∙ f₃.0 ∙ f₄.0)

pub heads_two : (s : List ℕ) (a start : ℕ) (xs ys : List Rec) (b : ℕ) → b ≡ a + 8 * length xs → b ≤ length s
    → over s a (heads start (xs ++ ys)) ≡ over (over s a (heads start xs)) b (heads (start + length (bodies xs)) ys)
heads_two s a start xs ys b e h =
    ap (over s a) (heads-append start xs ys)
    ∙ lay_two s a (heads start xs) (heads (start + length (bodies xs)) ys) b (omega (arith, length-heads start xs)) h

pub bodies_two : (s : List ℕ) (a : ℕ) (xs ys : List Rec) (b : ℕ) → b ≡ a + length (bodies xs) → b ≤ length s
    → over s a (bodies (xs ++ ys)) ≡ over (over s a (bodies xs)) b (bodies ys)
bodies_two s a xs ys b e h = ap (over s a) (bodies-append xs ys) ∙ lay_two s a (bodies xs) (bodies ys) b e h

-- a table laid behind another one, records behind records and bodies behind bodies
pub laid_two : (s : List ℕ) (a b start : ℕ) (xs ys : List Rec) → a + 8 * (length xs + length ys) ≤ b → b + start + (length (bodies xs) + length (bodies ys)) ≤ length s
    → recs_laid s a b start (xs ++ ys) ≡ recs_laid (recs_laid s a b start xs) (a + 8 * length xs) b (start + length (bodies xs)) ys
laid_two s a b start xs ys h k =
    let hx = heads start xs in
    let next = start + length (bodies xs) in
    let hy = heads next ys in
    let x = over s a hx in
    let lx : length x ≡ length s = length_over s a hx (omega (arith, length-heads start xs)) in
    let y = over x (a + 8 * length xs) hy in
    let ly : length y ≡ length x = length_over x (a + 8 * length xs) hy (omega (arith, lx, length-heads next ys)) in
    ap (λ z. over z (b + start) (bodies (xs ++ ys))) (heads_two s a start xs ys (a + 8 * length xs) refl (omega arith))
    ∙ bodies_two y (b + start) xs ys (b + next) (omega arith) (omega (arith, lx, ly))
    ∙ ap (λ z. over z (b + next) (bodies ys)) (over_comm x (a + 8 * length xs) hy (b + start) (bodies xs) (omega (arith, length-heads next ys)) (omega (arith, lx)))

pub laid_none : (s : List ℕ) (a b start : ℕ) (rs : List Rec) → rs ≡ [] → recs_laid s a b start rs ≡ s
unfolding heads bodies
laid_none s a b start rs e = rw e (ap (λ x. over x (b + start) []) (over_none s a) ∙ over_none s (b + start))

pub no_bytes : (rs : List Rec) → rs ≡ [] → length (bodies rs) ≡ 0
unfolding bodies
no_bytes rs e = rw e

-- the count, the records and the bodies, one behind the other
pub image-laid : (s : List ℕ) (rs : List Rec) → length (image_of rs) ≤ length s
    → over (over (over s 0 (bytes_of 2 (length rs))) 2 (heads 0 rs)) (2 + 8 * length rs) (bodies rs) ≡ over s 0 (image_of rs)
unfolding image_of
image-laid s rs h =
    let n = length-image rs in
    let c = bytes_of 2 (length rs) in
    let k : length c ≡ 2 = length-bytes_of 2 (length rs) in
    let m : length (c ++ heads 0 rs) ≡ 2 + 8 * length rs = length-append c (heads 0 rs) ∙ omega (arith, length-heads 0 rs) in
    rw (over-over s 0 c 2 (heads 0 rs) (omega arith) (omega arith))
    (over-over s 0 (c ++ heads 0 rs) (2 + 8 * length rs) (bodies rs) (omega arith) (omega arith)
    ∙ ap (over s 0) (append_assoc c (heads 0 rs) (bodies rs)))
