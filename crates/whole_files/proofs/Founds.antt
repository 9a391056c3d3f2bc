-- What is known of a file from the bytes that were read of it.
use Rattle.std.proofs.Common.{◌≡◌, ℕ, ◌≤◌, List, ◌++◌, length, Option, Some, None, sym, ap, ◌∙◌, arith}
use Rattle.std.proofs.lemmas.List.{append-nil, take_all}
use Rattle.std.specs.Prelude.{IfSome}
use Rattle.layout_io.specs.Told.{Disk, Told, FilesTold, bytes_of}
use Rattle.whole_files.specs.Outside.{IsFound, OnlyRead, ShortRead}

-- all of the names were asked for, and memory ran out then
pub short_of : (names : List (List ℕ)) (f g : FilesTold) → OnlyRead names f g → ShortRead names f g
short_of names f g only = record { kept = only.kept; asked = (length names, only.asked ∙ ap (λ (x : List (List ℕ)). f.asked ++ x) (sym (take_all (length names) names (omega arith)))); reads = only.reads; writes = only.writes }

-- bytes that are not too many are all of the file's
pub found_whole : (name bytes : List ℕ) (P : List ℕ → Type 0) (a b : Option Disk) → Told a b (IsFound name 67108864 bytes) → length bytes ≤ 67108864 → P bytes → IfSome a (λ d. (all : List ℕ) × (bytes_of d.files name ≡ Some all) × P all)
found_whole name bytes P None b told short is = tt
found_whole name bytes P (Some d) None told short is = absurd told
found_whole name bytes P (Some d) (Some e) told short is =
    let all : bytes ++ told.more ≡ bytes = ap (λ (x : List ℕ). bytes ++ x) (told.whole short) ∙ append-nil bytes in
    (bytes, told.bytes_are ∙ ap Some all, is)

-- of too many bytes more may follow
pub found_long : (name bytes : List ℕ) (P : List ℕ → Type 0) (a b : Option Disk) → Told a b (IsFound name 67108864 bytes) → ((more : List ℕ) → P (bytes ++ more)) → IfSome a (λ d. (all : List ℕ) × (bytes_of d.files name ≡ Some all) × P all)
found_long name bytes P None b told is = tt
found_long name bytes P (Some d) None told is = absurd told
found_long name bytes P (Some d) (Some e) told is = (bytes ++ told.more, told.bytes_are, is told.more)
