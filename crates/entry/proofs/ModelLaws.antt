-- Laws on the layout: it goes by parts, and starts move with what lies before.
-- Assumes nothing.
use mathlib.Core.Path.{◌≡◌, refl, sym, ap, ◌∙◌}
use mathlib.Core.List.{List, [], ◌∷◌, ◌++◌, append_assoc}
use Prim.Native.Nat.{ℕ, zero, suc, ◌+◌, ◌-◌, ◌*◌, ◌<◌, ◌≤◌}
use native.Mathlib.Nat.{add-zero, zero-add, add_assoc}
use native.Mathlib.Omega.{arith}
use native.Mathlib.Decide.{dec_le}
use lib.ListN.{length, drop, get_or, length-append}
use lib.Seq.{get_or-append-add}
use Rattle.lists.specs.Lists.{over, grown}
use Rattle.lists.proofs.SpliceLaws.{grown-turn, grown_end}
use Rattle.entry.specs.Model.{Val, Obj, rooms, words_of, slots_of, used, size, bytes_of, row, rows_of, header, all_objects, all_slots, all_words, all_bytes}
use Rattle.entry.specs.Table.{number_of, values_of, used_of}

-- ---- lengths
pub length_rows : (v b : ℕ) (os : List Obj) → length (rows_of v b os) ≡ 12 * length os
unfolding rows_of
length_rows v b [] = refl
length_rows v b (o ∷ os) = omega (arith, length_rows (v + used o) (b + size o) os)

pub length-words_of : (xs : List Val) → length (words_of xs) ≡ length xs
unfolding words_of
length-words_of [] = refl
length-words_of (x ∷ xs) = ap suc (length-words_of xs)

pub length-slots_of : (b : ℕ) (xs : List Val) → length (slots_of b xs) ≡ 3 * length xs
unfolding slots_of
length-slots_of b [] = refl
length-slots_of b (x ∷ xs) = omega (arith, length-slots_of (b + length x.room) xs)

pub length_slots : (b : ℕ) (os : List Obj) → length (all_slots b os) ≡ 3 * length (all_words os)
unfolding all_slots all_words
length_slots b [] = refl
length_slots b (o ∷ os) =
    omega (
      arith,
      length-append (slots_of (b + length o.name) o.values) (all_slots (b + size o) os),
      length-append (words_of o.values) (all_words os),
      length-slots_of (b + length o.name) o.values,
      length-words_of o.values,
      length_slots (b + size o) os,
    )

-- ---- by parts
pub words_append : (xs ys : List Obj) → all_words (xs ++ ys) ≡ all_words xs ++ all_words ys
unfolding all_words
words_append [] ys = refl
words_append (x ∷ xs) ys = rw (words_append xs ys) (simp append_assoc)

pub bytes_append : (xs ys : List Obj) → all_bytes (xs ++ ys) ≡ all_bytes xs ++ all_bytes ys
unfolding all_bytes
bytes_append [] ys = refl
bytes_append (x ∷ xs) ys = rw (bytes_append xs ys) (simp append_assoc)

pub rows_append : (v b : ℕ) (xs ys : List Obj) → rows_of v b (xs ++ ys) ≡ rows_of v b xs ++ rows_of (v + length (all_words xs)) (b + length (all_bytes xs)) ys
unfolding rows_of all_words all_bytes
rows_append v b [] ys = simp (add-zero)
rows_append v b (x ∷ xs) ys =
    rw (rows_append (v + used x) (b + size x) xs ys) (simp (append_assoc, length-append, length-words_of, add_assoc))

pub slots_append : (b : ℕ) (xs ys : List Obj) → all_slots b (xs ++ ys) ≡ all_slots b xs ++ all_slots (b + length (all_bytes xs)) ys
unfolding all_slots all_bytes
slots_append b [] ys = simp (add-zero)
slots_append b (x ∷ xs) ys =
    rw (slots_append (b + size x) xs ys) (simp (append_assoc, length-append, add_assoc))

-- ---- starts grow by what is put before
pub grown_first : (xs zs : List ℕ) (u v b : ℕ) (os : List Obj) (n p : ℕ) → n ≡ length os → p ≡ length xs + 4 → grown 12 u n p (xs ++ (rows_of v b os ++ zs)) ≡ xs ++ (rows_of (v + u) b os ++ zs)
unfolding rows_of
grown_first xs zs u v b [] n p e q = grown_end 12 u n p _ e
grown_first xs zs u v b (o ∷ os) n p e q =
    let f : (v + used o) + u ≡ (v + u) + used o = omega arith in
    let i = grown_first (xs ++ row (v + u) b o) zs u (v + used o) (b + size o) os (length os) (p + 12) refl (rw length-append (omega arith)) in
    rw (e, grown-turn 12 u (length os) p 4 xs _ (row (v + u) b o ++ (rows_of (v + used o) (b + size o) os ++ zs)) q refl)
    (rw (append_assoc, append_assoc, f) at i)

pub grown_name : (xs zs : List ℕ) (g v b : ℕ) (os : List Obj) (n p : ℕ) → n ≡ length os → p ≡ length xs + 5 → grown 12 g n p (xs ++ (rows_of v b os ++ zs)) ≡ xs ++ (rows_of v (b + g) os ++ zs)
unfolding rows_of
grown_name xs zs g v b [] n p e q = grown_end 12 g n p _ e
grown_name xs zs g v b (o ∷ os) n p e q =
    let f : (b + size o) + g ≡ (b + g) + size o = omega arith in
    let i = grown_name (xs ++ row v (b + g) o) zs g (v + used o) (b + size o) os (length os) (p + 12) refl (rw length-append (omega arith)) in
    rw (e, grown-turn 12 g (length os) p 5 xs _ (row v (b + g) o ++ (rows_of (v + used o) (b + size o) os ++ zs)) q refl)
    (rw (append_assoc, append_assoc, f) at i)

grown-slots_of : (xs zs : List ℕ) (g b : ℕ) (vs : List Val) (n p k : ℕ) → n ≡ length vs + k → p ≡ length xs + 1 → grown 3 g n p (xs ++ (slots_of b vs ++ zs)) ≡ grown 3 g k (p + 3 * length vs) (xs ++ (slots_of (b + g) vs ++ zs))
unfolding slots_of
grown-slots_of xs zs g b [] n p k e q =
    let f : p + 3 * 0 ≡ p = omega arith in
    let h : n ≡ k = omega arith in
    rw (f, h)
grown-slots_of xs zs g b (x ∷ vs) n p k e q =
    let s : List ℕ = x.type ∷ (b + g) ∷ length x.room ∷ [] in
    let h : n ≡ suc (length vs + k) = omega arith in
    let f : (b + length x.room) + g ≡ (b + g) + length x.room = omega arith in
    let m : (p + 3) + 3 * length vs ≡ p + 3 * suc (length vs) = omega arith in
    let i = grown-slots_of (xs ++ s) zs g (b + length x.room) vs (length vs + k) (p + 3) k refl (rw length-append (omega arith)) in
    rw (h, grown-turn 3 g (length vs + k) p 1 xs _ (s ++ (slots_of (b + length x.room) vs ++ zs)) q refl)
    (rw (append_assoc, append_assoc, f, m) at i)

pub grown_start : (xs zs : List ℕ) (g b : ℕ) (os : List Obj) (n p : ℕ) → n ≡ length (all_words os) → p ≡ length xs + 1 → grown 3 g n p (xs ++ (all_slots b os ++ zs)) ≡ xs ++ (all_slots (b + g) os ++ zs)
unfolding all_slots all_words
grown_start xs zs g b [] n p e q = grown_end 3 g n p _ e
grown_start xs zs g b (o ∷ os) n p e q =
    let s = slots_of ((b + g) + length o.name) o.values in
    let f : (b + length o.name) + g ≡ (b + g) + length o.name = omega arith in
    let h : (b + size o) + g ≡ (b + g) + size o = omega arith in
    let w : n ≡ length o.values + length (all_words os) = omega (arith, length-append (words_of o.values) (all_words os), length-words_of o.values) in
    let l : length s ≡ 3 * length o.values = length-slots_of ((b + g) + length o.name) o.values in
    let i = grown_start (xs ++ s) zs g (b + size o) os (length (all_words os)) (p + 3 * length o.values) refl (rw length-append (omega arith)) in
    rw (append_assoc, grown-slots_of xs (all_slots (b + size o) os ++ zs) g (b + length o.name) o.values n p (length (all_words os)) w q, f, append_assoc)
    (rw (append_assoc, append_assoc, h) at i)

-- ---- what stands in the columns
pub first_is : (xs zs : List ℕ) (v b : ℕ) (os : List Obj) (p : ℕ) → p ≡ length xs + 4 → 0 < length os → get_or (xs ++ (rows_of v b os ++ zs)) p 0 ≡ v
unfolding rows_of
first_is xs zs v b [] p e h = absurd (omega arith)
first_is xs zs v b (o ∷ os) p e h = rw (e, get_or-append-add xs (rows_of v b (o ∷ os) ++ zs) 4 0)

pub name_is : (xs zs : List ℕ) (v b : ℕ) (os : List Obj) (p : ℕ) → p ≡ length xs + 5 → 0 < length os → get_or (xs ++ (rows_of v b os ++ zs)) p 0 ≡ b
unfolding rows_of
name_is xs zs v b [] p e h = absurd (omega arith)
name_is xs zs v b (o ∷ os) p e h = rw (e, get_or-append-add xs (rows_of v b (o ∷ os) ++ zs) 5 0)

-- and that none passes the totals
pub first_within : (xs zs : List ℕ) (v b : ℕ) (os : List Obj) (j p : ℕ) → p ≡ length xs + 4 + 12 * j → j < length os → get_or (xs ++ (rows_of v b os ++ zs)) p 0 ≤ v + length (all_words os)
unfolding rows_of all_words
first_within xs zs v b [] j p e h = absurd (omega arith)
first_within xs zs v b (o ∷ os) zero p e h = omega (arith, first_is xs zs v b (o ∷ os) p (omega arith) h)
first_within xs zs v b (o ∷ os) (suc j) p e h =
    let l = length-append (words_of o.values) (all_words os) in
    let w = length-words_of o.values in
    let i = first_within (xs ++ row v b o) zs (v + used o) (b + size o) os j p (rw length-append (omega arith)) (omega arith) in
    rw (← append_assoc xs (row v b o) (rows_of (v + used o) (b + size o) os ++ zs)) (omega (arith, i, l, w))

pub name_within : (xs zs : List ℕ) (v b : ℕ) (os : List Obj) (j p : ℕ) → p ≡ length xs + 5 + 12 * j → j < length os → get_or (xs ++ (rows_of v b os ++ zs)) p 0 ≤ b + length (all_bytes os)
unfolding rows_of all_bytes
name_within xs zs v b [] j p e h = absurd (omega arith)
name_within xs zs v b (o ∷ os) zero p e h = omega (arith, name_is xs zs v b (o ∷ os) p (omega arith) h)
name_within xs zs v b (o ∷ os) (suc j) p e h =
    let l = length-append (bytes_of o) (all_bytes os) in
    let i = name_within (xs ++ row v b o) zs (v + used o) (b + size o) os j p (rw length-append (omega arith)) (omega arith) in
    rw (← append_assoc xs (row v b o) (rows_of (v + used o) (b + size o) os ++ zs)) (omega (arith, i, l))

start_within_of : (xs zs : List ℕ) (b : ℕ) (vs : List Val) (j p : ℕ) → p ≡ length xs + 1 + 3 * j → j < length vs → get_or (xs ++ (slots_of b vs ++ zs)) p 0 ≤ b + length (rooms vs)
unfolding slots_of rooms
start_within_of xs zs b [] j p e h = absurd (omega arith)
start_within_of xs zs b (x ∷ vs) zero p e h =
    let q : p ≡ length xs + 1 = omega arith in
    rw (q, get_or-append-add xs (slots_of b (x ∷ vs) ++ zs) 1 0) (omega arith)
start_within_of xs zs b (x ∷ vs) (suc j) p e h =
    let s : List ℕ = x.type ∷ b ∷ length x.room ∷ [] in
    let l = length-append x.room (rooms vs) in
    let i = start_within_of (xs ++ s) zs (b + length x.room) vs j p (rw length-append (omega arith)) (omega arith) in
    rw (← append_assoc xs s (slots_of (b + length x.room) vs ++ zs)) (omega (arith, i, l))

pub start_within : (xs zs : List ℕ) (b : ℕ) (os : List Obj) (j p : ℕ) → p ≡ length xs + 1 + 3 * j → j < length (all_words os) → get_or (xs ++ (all_slots b os ++ zs)) p 0 ≤ b + length (all_bytes os)
unfolding all_slots all_words all_bytes
start_within xs zs b [] j p e h = absurd (omega arith)
start_within xs zs b (o ∷ os) j p e h =
    let l = length-append (bytes_of o) (all_bytes os) in
    let k = length-append o.name (rooms o.values) in
    let w = length-append (words_of o.values) (all_words os) in
    let x = length-words_of o.values in
    let s = slots_of (b + length o.name) o.values in
    let y = length-slots_of (b + length o.name) o.values in
    rw (append_assoc s (all_slots (b + size o) os) zs) (go (λ ls k q g. start_within ls zs (b + size o) os k p q g) l k (dec_le (length o.values) j) (omega (arith, w, x)) y)
  where
    go : ((ls : List ℕ) (k : ℕ) → p ≡ length ls + 1 + 3 * k → k < length (all_words os) → get_or (ls ++ (all_slots (b + size o) os ++ zs)) p 0 ≤ (b + size o) + length (all_bytes os)) → length (bytes_of o ++ all_bytes os) ≡ length (bytes_of o) + length (all_bytes os) → length (o.name ++ rooms o.values) ≡ length o.name + length (rooms o.values) → Dec (length o.values ≤ j) → j < length o.values + length (all_words os) → length (slots_of (b + length o.name) o.values) ≡ 3 * length o.values
        → get_or (xs ++ (slots_of (b + length o.name) o.values ++ (all_slots (b + size o) os ++ zs))) p 0 ≤ b + length (bytes_of o ++ all_bytes os)
    go ih l k (yes f) g y =
        let s = slots_of (b + length o.name) o.values in
        let i = ih (xs ++ s) (j - length o.values) (rw length-append (omega arith)) (omega arith) in
        rw (← append_assoc xs s (all_slots (b + size o) os ++ zs)) (omega (arith, i, l))
    go ih l k (no f) g y =
        omega (arith, l, k, start_within_of xs (all_slots (b + size o) os ++ zs) (b + length o.name) o.values j p e (omega arith))

-- ---- a memory that begins with a layout
pub begins : (s l : List ℕ) → over s 0 l ≡ s → s ≡ l ++ drop (length l) s
unfolding over
begins s l e = sym (rw zero-add at e)

pub record Totals (os : List Obj) (objects : List ℕ) : Type 0 where
  pub number : number_of objects ≡ length os
  pub values : values_of objects ≡ length (all_words os)
  pub bytes : used_of objects ≡ length (all_bytes os)

pub totals : (ed : ℕ) (os : List Obj) (s : List ℕ) → over s 0 (all_objects ed os) ≡ s → Totals os s
unfolding over
totals ed os s e =
    record { number = sym (ap (λ l. get_or l 0 0) e); values = sym (ap (λ l. get_or l 1 0) e); bytes = sym (ap (λ l. get_or l 2 0) e) }

-- the rows in parts
pub rows_parts : (ed : ℕ) (xs ys : List Obj) (s : List ℕ) → over s 0 (all_objects ed (xs ++ ys)) ≡ s
    → s ≡ (header ed (xs ++ ys) ++ rows_of 0 0 xs) ++ (rows_of (length (all_words xs)) (length (all_bytes xs)) ys ++ drop (length (all_objects ed (xs ++ ys))) s)
rows_parts ed xs ys s e =
    let hd = header ed (xs ++ ys) in
    let z = drop (length (all_objects ed (xs ++ ys))) s in
    let q = rows_of (length (all_words xs)) (length (all_bytes xs)) ys in
    begins s (all_objects ed (xs ++ ys)) e
    ∙ ap (λ l. (hd ++ l) ++ z) (rw (zero-add (length (all_words xs)), zero-add (length (all_bytes xs))) at (rows_append 0 0 xs ys))
    ∙ ap (λ l. l ++ z) (sym (append_assoc hd (rows_of 0 0 xs) q))
    ∙ append_assoc (hd ++ rows_of 0 0 xs) q z

-- an object's first slot is how many values lie before it
pub first_at_lem : (ed : ℕ) (xs ys : List Obj) (s : List ℕ) → over s 0 (all_objects ed (xs ++ ys)) ≡ s → 0 < length ys → get_or s (12 * length xs + 16) 0 ≡ length (all_words xs)
first_at_lem ed xs ys s e h =
    let hd = header ed (xs ++ ys) in
    let l : length (hd ++ rows_of 0 0 xs) ≡ 12 * length xs + 12 = rw (length-append hd (rows_of 0 0 xs)) (omega (arith, length_rows 0 0 xs)) in
    ap (λ t. get_or t (12 * length xs + 16) 0) (rows_parts ed xs ys s e)
    ∙ first_is (hd ++ rows_of 0 0 xs) (drop (length (all_objects ed (xs ++ ys))) s) (length (all_words xs)) (length (all_bytes xs)) ys (12 * length xs + 16) (omega arith) h
