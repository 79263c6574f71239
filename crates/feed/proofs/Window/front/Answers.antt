use Rattle.std.proofs.Common.{◌≡◌, ◌-◌, ◌∙◌, List, ℕ, length, drop, ◌++◌, refl, arith, length-append}
use Rattle.std.proofs.lemmas.List.{drop_at}
use Rattle.feed.proofs.Window.front.Goals as goal

-- the end of a list, by its length
ending : (bs front rest : List ℕ) → bs ≡ front ++ rest → drop (length bs - length rest) bs ≡ rest
ending bs front rest e = rw e (drop_at front rest _ (omega (arith, length-append front rest)))

pub returns-in-Ok-clause-right : goal.returns-in-Ok-clause-right
returns-in-Ok-clause-right c more _ =
    let read = c.in-Ok.ensures in
    let rest = ending c.pending-pending.result.now _ c.in-Ok.rest.now (read.exactly.only _ refl).bytes in
    rw (← c.pending-pending.ensures.value) (read.lasting more (rw (← read.answer) tt) ∙ rw (← read.answer, rest))
