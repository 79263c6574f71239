-- Checks in their order: each is a test, and the fault that it gives where it holds.
use Rattle.std.specs.Prelude.{Bool, cond, List, [], ◌∷◌, Ok, Err, Result}
use Rattle.fault.specs.declared.Fault.{Fault}

abbrev pub Checks : Type 0
Checks = List (Bool × Fault)

-- the fault of the first check that holds, or x where none does
abbrev pub checked : {X : Type 0} → Checks → X → Result X Fault
checked [] x = Ok x
checked (c ∷ cs) x = cond c.0 (Err c.1) (checked cs x)
