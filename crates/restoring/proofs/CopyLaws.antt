-- Copying a default is putting its encoding. Assumes nothing.
use mathlib.Core.Path.{◌≡◌, sym, ap, ◌∙◌}
use mathlib.Core.Bool.{true, false}
use mathlib.Core.List.{List, []}
use Prim.Native.Nat.{ℕ, ◌+◌}
use native.Mathlib.Omega.{arith}
use lib.ListN.{length, take, drop, get_or, set, length-drop}
use lib.Seq.{slice, take_all, length-take-le}
use Rattle.lists.specs.Lists.{over}
use Rattle.lists.specs.Numbers.{bytes_of}
use Rattle.lists.proofs.SpliceLaws.{slice-part}
use Rattle.lists.proofs.NumberLaws.{number-bytes_of, length-bytes_of}
use Rattle.value.specs.Codec.{is_text, size_of}
use Rattle.value.proofs.CodecLaws.{encoding_text, encoding_fixed}
use Rattle.entry.specs.Table.{Dict, dict, type_at, start_at}
use Rattle.entry.specs.Encode.{encoding_in}
use Rattle.entry.specs.Put.{contents, put_in, retyped}
use Rattle.entry.proofs.PutLaws.{put_text, put_fixed}
use Rattle.entry.proofs.KeepLaws.{type_new, start_new}
use Rattle.restoring.specs.Restore.{Copies}

module _ (slots words bytes : List ℕ) (p q : ℕ) (c : Copies slots words bytes p q) where
  abbrev d : Dict
  d = dict [] slots words bytes

  abbrev t : ℕ
  t = type_at slots q

  abbrev w : ℕ
  w = get_or words q 0

  new : type_at (retyped slots p t) p ≡ t
  new = type_new d p t c.slot.0

  pub copied_text : is_text t ≡ true → contents (set words p w) (over bytes (start_at slots p) (slice (start_at slots q) (start_at slots q + w) bytes)) ≡ put_in (retyped slots p t) (contents words bytes) p (encoding_in slots words bytes q)
  copied_text x =
      let a = start_at slots q in
      let part = take w (drop a bytes) in
      let l : length part ≡ w = length-take-le w (drop a bytes) (rw length-drop (omega (arith, (c.text x).1))) in
      let e : encoding_in slots words bytes q ≡ part = encoding_text t w part x in
      ap (λ s. contents (set words p w) (over bytes (start_at slots p) s)) (slice-part bytes a w (omega (arith, (c.text x).1)))
      ∙ sym (put_text (retyped slots p t) (contents words bytes) p (encoding_in slots words bytes q) (ap is_text new ∙ x) ∙ rw (start_new d p t p, e, l))

  pub copied_fixed : is_text t ≡ false → contents (set words p w) bytes ≡ put_in (retyped slots p t) (contents words bytes) p (encoding_in slots words bytes q)
  copied_fixed x =
      let n = size_of t in
      let e : encoding_in slots words bytes q ≡ bytes_of n w = encoding_fixed t w (take w (drop (start_at slots q) bytes)) x in
      let z : take n (bytes_of n w) ≡ bytes_of n w = take_all n (bytes_of n w) (omega (arith, length-bytes_of n w)) in
      sym (put_fixed (retyped slots p t) (contents words bytes) p (encoding_in slots words bytes q) (ap is_text new ∙ x) ∙ rw (new, e, z, number-bytes_of n w (c.fixed x)))
