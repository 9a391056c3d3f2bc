-- The library that was read is within the limits.
use Rattle.std.proofs.Common.{ℕ, List, length, Ok, Err}
use Rattle.std.specs.Prelude.{IfOk, Result}
use Rattle.sexp_text.specs.Forest.{Forest}
use Rattle.dsn_lists.specs.declared.faults.ReadWhy.{ReadWhy}
use Rattle.dsn_lists.specs.Results.{Gives}
use Rattle.dsn_library.specs.declared.library.Library.{Library}
use Rattle.dsn_library.specs.Libraries.{library_of}
use Rattle.dsn_library.specs.Limits.{IsFitLibrary}
use Rattle.dsn_library.proofs.Sound.{library_of_fit}

pub library_if_given : (f : Forest) (layers : List (List ℕ)) (r : Result Library ReadWhy) → Gives (λ (x : Library). x) r (library_of f layers) → IfOk r (IsFitLibrary (length layers))
library_if_given f layers (Ok x) e = library_of_fit f layers x e
library_if_given f layers (Err why) e = tt
