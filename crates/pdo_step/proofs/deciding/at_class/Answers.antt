-- `pdo_step::deciding::at_class` meets its contract: each class is a case of the definition. Assumes nothing.
use mathlib.Core.Path.{◌≡◌, sym, ap, ◌∙◌}
use mathlib.Core.List.{List}
use Prim.Native.Nat.{ℕ}
use Rattle.aim.specs.declared.Class.{Class}
use Rattle.pdo_step.specs.Outcomes.{on_class}
use Rattle.pdo_step.proofs.deciding.at_class.Goals as goal

classed : (slots payload : List ℕ) (x : ℕ) (k l : Class) → l ≡ k → on_class slots payload x k ≡ on_class slots payload x l
classed slots payload x k l e = ap (on_class slots payload x) (sym e)

pub at_value-requires : goal.at_value-requires
at_value-requires c = let r = c.requires _ _ _ c.in-Value.is in record { p_bound = (r.0, r.1); len_in_bounds = r.2 }

pub returns-in-Server : goal.returns-in-Server
returns-in-Server c = classed c.args.slots.now c.args.payload.now c.args.index _ _ c.in-Server.is

pub returns-in-Client : goal.returns-in-Client
returns-in-Client c = classed c.args.slots.now c.args.payload.now c.args.index _ _ c.in-Client.is

pub returns-in-Count : goal.returns-in-Count
returns-in-Count c = c.at_count.ensures ∙ classed c.args.slots.now c.args.payload.now c.args.index _ _ c.in-Count.is

pub returns-in-Value : goal.returns-in-Value
returns-in-Value c = c.at_value.ensures ∙ classed c.args.slots.now c.args.payload.now c.args.index _ _ c.in-Value.is
