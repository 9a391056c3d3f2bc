use Rattle.std.proofs.lemmas.Bool.Decides.{same_from_decides}
use Rattle.std.proofs.lemmas.Slice.Eq.{bytes_eq-Decides}
use Rattle.dsn_lists.specs.Words.{same}
use Rattle.dsn_lists.proofs.words.is_word.Goals as goal

pub returns : goal.returns
unfolding same
returns c = same_from_decides _ _ c.eq_ignore_ascii_case.ensures.test (bytes_eq-Decides _ _)
