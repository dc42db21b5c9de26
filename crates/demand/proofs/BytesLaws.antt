-- Bytes stay bytes: of a dictionary of bytes, a call that is lent bytes leaves one. Assumes nothing.
use Rattle.std.specs.Prelude.{Result, Ok, Err}
use Rattle.answers.specs.declared.Refusal.{Refusal}
use mathlib.Core.Path.{◌≡◌, refl, sym, ap, subst}
use mathlib.Core.Bool.{Bool, true, false, cond, ◌&&◌}
use mathlib.Core.List.{List, [], ◌∷◌, ◌++◌}
use Prim.Native.Nat.{ℕ, zero, suc, ◌+◌}
use native.Mathlib.Omega.{arith}
use lib.Dec.{ltb}
use lib.ListN.{length, take, drop, replicate}
use Rattle.lists.specs.Numbers.{Bytes}
use Rattle.lists.proofs.NumberLaws.{bytes_take, bytes_drop, bytes_over}
use Rattle.answers.specs.declared.Refusal.TheVariants.{BadValue, NoEventRoom, PayloadTooLong}
use Rattle.value.specs.Codec.{is_text}
use Rattle.entry.specs.Model.{Obj, rooms, bytes_of, all_bytes, insert_at}
use Rattle.entry.specs.Table.{Dict, vals_from, objs_from, model_of, number_of, type_at, start_at, room_at, count_at, default_at, first_at, name_at, name_len_at}
use Rattle.entry.specs.Judge.{well_formed}
use Rattle.entry.specs.Put.{Contents, contents, put_in}
use Rattle.entry.proofs.PutLaws.{put_text, put_fixed}
use Rattle.given.specs.declared.Head.{Head}
use Rattle.given.specs.Given.{type_in, room_in, length_in, held, room_of, given, count_in, obj_in}
use Rattle.placing.specs.Place.{inserted}
use Rattle.insertion.specs.Insert.{below, answer_of, memory_after, memory_of}
use Rattle.writing.specs.declared.Act.{Act}
use Rattle.writing.specs.declared.Act.TheVariants as act
use Rattle.writing.specs.declared.WriteFault.{WriteFault}
use Rattle.writing.specs.Judging.{judge_of}
use Rattle.writing.specs.Writing as writing
use Rattle.writing.specs.Writing.{write_of}
use Rattle.writing.proofs.PutLaws.{judged_facts}
use Rattle.pdo_run.specs.Run.{Frame, frame, finished}
use Rattle.pdo_handler.specs.Consume as consume
use Rattle.pdo_handler.specs.Consume.{received_by, consume_of}
use Rattle.pdo_handler.proofs.ConsumeLaws.{received_sane}
use Rattle.pdo_cycle.specs.Payloads.{payloads_in, are_shaped, are_placed, are_short}
use Rattle.pdo_cycle.specs.Cycle as cycle
use Rattle.pdo_cycle.specs.Cycle.{Delivery, delivery, cycle_from, ended, cycle_of}
use Rattle.demand.proofs.CycleLaws.{from_turns, turns_sane}

-- ---- lists
append_bytes : (xs ys : List ℕ) → Bytes xs → Bytes ys → Bytes (xs ++ ys)
append_bytes [] ys a b i = b i
append_bytes (x ∷ xs) ys a b zero = a 0
append_bytes (x ∷ xs) ys a b (suc i) = append_bytes xs ys (λ j. a (suc j)) b i

zeros_bytes : (n : ℕ) → Bytes (replicate n 0)
zeros_bytes zero i = omega arith
zeros_bytes (suc n) zero = omega arith
zeros_bytes (suc n) (suc i) = zeros_bytes n i

-- ---- an insertion
abbrev EachBytes : List Obj → Type 0
EachBytes [] = Unit {0}
EachBytes (o ∷ os) = Bytes (bytes_of o) × EachBytes os

all_bytes_lem : (os : List Obj) → EachBytes os → Bytes (all_bytes os)
unfolding all_bytes
all_bytes_lem [] e i = omega arith
all_bytes_lem (o ∷ os) e i = append_bytes (bytes_of o) (all_bytes os) e.0 (all_bytes_lem os e.1) i

insert_each : (i : ℕ) (o : Obj) (os : List Obj) → Bytes (bytes_of o) → EachBytes os → EachBytes (insert_at i o os)
insert_each zero o os b e = (b, e)
insert_each (suc i) o [] b e = (b, tt)
insert_each (suc i) o (p ∷ os) b e = (e.0, insert_each i o os b e.1)

module _ (d : Dict) (b : Bytes d.bytes) where
  part_bytes : (a n : ℕ) → Bytes (take n (drop a d.bytes))
  part_bytes a n = bytes_take n (drop a d.bytes) (bytes_drop a d.bytes b)

  rooms_bytes : (k p : ℕ) → Bytes (rooms (vals_from d k p))
  unfolding rooms vals_from
  rooms_bytes zero p i = omega arith
  rooms_bytes (suc k) p i = append_bytes (take (room_at d.slots p) (drop (start_at d.slots p) d.bytes)) (rooms (vals_from d k (suc p))) (part_bytes (start_at d.slots p) (room_at d.slots p)) (rooms_bytes k (suc p)) i

  objects_bytes : (k i : ℕ) → EachBytes (objs_from d k i)
  unfolding objs_from
  objects_bytes zero i = tt
  objects_bytes (suc k) i = (
    append_bytes (take (name_len_at d.objects i) (drop (name_at d.objects i) d.bytes)) (rooms (vals_from d (count_at d.objects i + default_at d.objects i) (first_at d.objects i)))
        (part_bytes (name_at d.objects i) (name_len_at d.objects i))
        (rooms_bytes (count_at d.objects i + default_at d.objects i) (first_at d.objects i)),
    objects_bytes k (suc i),
  )

held_bytes : (t : ℕ) (s : List ℕ) → Bytes s → Bytes (held t s)
held_bytes t s b = go (is_text t)
  where
    go : (x : Bool) → Bytes (cond x s [])
    go true i = b i
    go false i = omega arith

given_bytes : (vals encodings : List ℕ) → Bytes encodings → (k j t : ℕ) → Bytes (rooms (given vals encodings k j t))
unfolding rooms given room_of
given_bytes vals encodings b zero j t i = omega arith
given_bytes vals encodings b (suc k) j t i =
    let r = room_in vals j in
    let s = take (length_in vals j) (drop t encodings) in
    append_bytes (take r (held (type_in vals j) s ++ replicate r 0)) (rooms (given vals encodings k (suc j) (t + length_in vals j)))
    (bytes_take r (held (type_in vals j) s ++ replicate r 0) (append_bytes (held (type_in vals j) s) (replicate r 0) (held_bytes (type_in vals j) s (bytes_take (length_in vals j) (drop t encodings) (bytes_drop t encodings b))) (zeros_bytes r)))
    (given_bytes vals encodings b k (suc j) (t + length_in vals j))
    i

pub insert_bytes : (h : Head) (name vals encodings : List ℕ) (d : Dict) → Bytes name → Bytes encodings → Bytes d.bytes → Bytes (memory_of h name vals encodings d).bytes
insert_bytes h name vals encodings d bn be b = go (answer_of h name vals encodings d)
  where
    o : Obj
    o = obj_in h name vals encodings

    object : Bytes (bytes_of o)
    object = append_bytes name (rooms (given vals encodings (count_in vals) 0 0)) bn (given_bytes vals encodings be (count_in vals) 0 0)

    i : ℕ
    i = below h.index (model_of d)

    laid : Bytes (all_bytes (insert_at i o (model_of d)))
    laid = all_bytes_lem (insert_at i o (model_of d)) (insert_each i o (model_of d) object (objects_bytes d b (number_of d.objects) 0))

    go : (a : Result (Unit {0}) Refusal) → Bytes (memory_after a (inserted i o d) d).bytes
    go (Ok _) = bytes_over d.bytes 0 (all_bytes (insert_at i o (model_of d))) (omega arith) b laid
    go (Err r) = b

-- ---- a write
pub write_bytes : (d : Dict) (store : List ℕ) (x sub t : ℕ) (s : List ℕ) → well_formed d ≡ true → Bytes s → Bytes d.bytes → Bytes (write_of d store x sub t s).bytes
unfolding write_of writing.write_act_of
write_bytes d store x sub t s w bs b = rw w (go (judge_of d (length store) x sub t s) refl)
  where
    put : (p : ℕ) → judge_of d (length store) x sub t s ≡ Ok (act.Put p) → (y : Bool) → is_text (type_at d.slots p) ≡ y → Bytes (put_in d.slots (contents d.words d.bytes) p s).bytes
    put p q true y i =
        let f = judged_facts d w (length store) x sub t s p q in
        rw (ap (λ (c : Contents). c.bytes) (put_text d.slots (contents d.words d.bytes) p s y)) (bytes_over d.bytes (start_at d.slots p) s (omega (arith, f.within, f.bytes)) b bs i)
    put p q false y i = rw (ap (λ (c : Contents). c.bytes) (put_fixed d.slots (contents d.words d.bytes) p s y)) (b i)

    go : (j : Result Act WriteFault) → judge_of d (length store) x sub t s ≡ j → Bytes (writing.write_act_of d store sub s j).bytes
    go (Ok (act.Put p)) q = put p q (is_text (type_at d.slots p)) refl
    go (Ok act.Accepted) q = b
    go (Ok (act.Keep i n)) q = b
    go (Ok act.Save) q = b
    go (Ok act.Restore) q = b
    go (Err f) q = b

-- ---- payloads
pub consume_bytes : (d : Dict) (payload : List ℕ) (sender version : ℕ) (ready : Bool) (room : ℕ) (log : List ℕ) → well_formed d ≡ true → Bytes payload → Bytes d.bytes → Bytes (consume_of d payload sender version ready room log).contents.bytes
unfolding consume_of
consume_bytes d payload sender version ready room log w bp b = rw w (go (ltb room 254) (ltb 1490 (length payload)))
  where
    f : Frame
    f = frame d.objects d.slots payload sender 0

    c : Contents
    c = contents d.words d.bytes

    go : (x y : Bool) → Bytes (cond x (consume.after_consume (Err NoEventRoom) c log) (cond y (consume.after_consume (Err PayloadTooLong) c log) (consume.consume_done (finished (received_by f c version ready) log 0)))).contents.bytes
    go true y = b
    go false true = b
    go false false = (received_sane f bp c version ready (record { well = w; bytes = b })).bytes

pub cycle_bytes : (d : Dict) (delivered ps log : List ℕ) → well_formed d ≡ true → Bytes delivered → Bytes d.bytes → Bytes (cycle_of d delivered ps log).contents.bytes
unfolding cycle_of
cycle_bytes d delivered ps log w bd b = rw w (go (are_shaped ps && are_placed (length delivered) ps) (are_short ps))
  where
    v : Delivery
    v = delivery d.objects d.slots delivered ps

    c : Contents
    c = contents d.words d.bytes

    consumed_bytes : Bytes (cycle_from v (payloads_in ps) 0 c (length log)).contents.bytes
    consumed_bytes =
        let x = cycle_from v (payloads_in ps) 0 c (length log) in
        subst (λ (y : Contents). Bytes y.bytes) (sym (from_turns v (payloads_in ps) 0 c (length log)).leaves) (turns_sane v bd 0 x.consumed c (record { well = w; bytes = b })).bytes

    go : (x y : Bool) → Bytes (cond x (cond y (cycle.cycle_done (ended (cycle_from v (payloads_in ps) 0 c (length log)) log 0 0)) (cycle.after_cycle (Err PayloadTooLong) c log)) (cycle.after_cycle (Err BadValue) c log)).contents.bytes
    go true true = consumed_bytes
    go true false = b
    go false y = b
