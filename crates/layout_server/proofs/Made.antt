-- The session file behind its making.
use Rattle.std.proofs.Common.{◌≡◌, ℕ, List, [], Some, sym, ap, ◌∙◌}
use Rattle.layout_io.specs.Told.{Disk, bytes_of, IsCreated}
use Rattle.whole_files.specs.Outside.{WroteFile}
use Rattle.layout_server.specs.Headline.{HasSession}

-- a file that was made empty and given bytes holds them, and other files stayed
pub made_then_given : (name text : List ℕ) (file : ℕ) (d e f : Disk) → IsCreated name file d e → WroteFile file text e f → HasSession name text d f
made_then_given name text file d e f made given =
    let empty : bytes_of e.files (e.target file) ≡ Some [] = ap (bytes_of e.files) made.target ∙ made.empty in (
      ap (bytes_of f.files) (sym made.target) ∙ given.grown [] empty,
      λ other ne. given.others other (λ is. ne (is ∙ made.target)) ∙ made.others other ne,
    )

-- a file that was made is empty
pub made_empty : (name : List ℕ) (file : ℕ) (d e : Disk) → IsCreated name file d e → HasSession name [] d e
made_empty name file d e made = (made.empty, made.others)
