-- `names::has_name` meets its contract: the library's test of the name's bytes. Assumes nothing.
use mathlib.Core.Path.{◌≡◌, sym, ◌∙◌}
use Rattle.names.proofs.NameLaws.{name_lies, same_bytes}
use Prim.Native.Nat.{◌+◌, ◌-◌}
use borrow.Author.Rules.{rules}
use native.Mathlib.Omega.{arith}
use Rattle.names.proofs.has_name.Goals as goal

pub invariant_of-row : goal.invariant_of-row
invariant_of-row c =
    let l = name_lies _ c.d.invariant c.args.i (rw (sym c.d.view_is) at c.requires) in
    (l.small, l.row)

pub overflow_add-end : goal.overflow_add-end
overflow_add-end c =
    let l = name_lies _ c.d.invariant c.args.i (rw (sym c.d.view_is) at c.requires) in
    search (rules, l.start, l.inside)

pub slice_bounds-own-end : goal.slice_bounds-own-end
slice_bounds-own-end c = omega (arith, (name_lies _ c.d.invariant c.args.i (rw (sym c.d.view_is) at c.requires)).inside)

pub returns : goal.returns
returns c =
    let n : (c.name-start.result + c.name_len.result) - c.name-start.result ≡ c.name_len.result = omega arith in
    c.eq.ensures ∙ rw (n, c.name-start.ensures, c.name_len.ensures, sym c.d.view_is) (same_bytes _ _)
