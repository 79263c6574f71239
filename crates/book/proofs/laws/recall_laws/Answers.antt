use Rattle.book.proofs.Means.{answers}
use Rattle.book.proofs.laws.recall_laws.Goals as goal

pub returns-clause-answers : goal.returns-clause-answers
returns-clause-answers g c = answers (g.B.Book.bids c.args.book.now)
