use Rattle.std.proofs.Common.{◌≡◌, eqb, refl, ◌∙◌, rules, arith}
use Rattle.std.specs.List.{list_all}
use Rattle.std.proofs.lemmas.Fn.{fold_over, fronts}
use Rattle.std.proofs.lemmas.Iterator.{YieldsList-from_slice, YieldsList-from_zip, zips}
use Rattle.std.proofs.lemmas.List.Folds.{list_all-append}
use Rattle.book.proofs.Passes.{same_bytes}
use Rattle.book.proofs.roll.same_token.Goals as goal

pub returns : goal.returns
returns c =
    let a = c.args.a.now in
    let b = c.args.b.now in
    fold_over (zips fronts fronts) (λ p. (p.0.now, p.1.now)) _ (λ ps r. r ≡ list_all (λ p. eqb p.0 p.1) ps) _ (λ ps r p q f' j k. search (rules, list_all-append))
    c.zip.result _ _ _ (YieldsList-from_zip (YieldsList-from_slice a cc) (YieldsList-from_slice b cc)).runs refl c.fold.ensures.ran ∙ same_bytes a b (omega arith)
