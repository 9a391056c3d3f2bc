-- What a created file was given over several calls, and what was read of an opened one.
use Rattle.std.proofs.Common.{◌≡◌, ℕ, ◌-◌, ◌<◌, List, [], ◌++◌, length, take, drop, Option, Some, Err, refl, sym, ap, subst, ◌∙◌, append_assoc, arith, length-append}
use Rattle.std.proofs.lemmas.List.{append-nil, take_at, take-append-drop, length-drop}
use Rattle.layout_io.specs.Causes.{Rose, HasCause}
use Rattle.layout_io.specs.Told.{Disk, Told, FilesTold, Stays, bytes_of, IsWritten, IsOpened}
use Rattle.layout_io.specs.declared.fault.IoFault.{IoFault}
use Rattle.layout_io.specs.declared.fault.IoFault.TheVariants.{Failed, Memory}
use Rattle.whole_files.specs.Outside.{WroteFile, WroteSome, WriteStop, ReadRest, ReadTo, IsFound, SameFiles}
use Rattle.whole_files.specs.declared.stop.Stop.{Stop}
use Rattle.whole_files.specs.declared.stop.Stop.TheVariants as stops
use Rattle.whole_files.proofs.Tolds.{told_same, told_then, told_weaker}

-- the file was given what of the text isn't left
pub record Gave (file : ℕ) (text rest : List ℕ) (f g : Option Disk) : Type 0 where
  pub done : List ℕ
  pub parts : text ≡ done ++ rest
  pub wrote : Told f g (WroteFile file done)

wrote_nothing : (file : ℕ) (d : Disk) → WroteFile file [] d d
wrote_nothing file d = record { grown = λ had e. e ∙ ap Some (sym (append-nil had)); others = λ other ne. refl; target = refl }

pub gave_none : (file : ℕ) (text : List ℕ) (f : Option Disk) → Gave file text text f f
gave_none file text f = record { done = []; parts = refl; wrote = told_same f (WroteFile file []) (wrote_nothing file) }

pub wrote_then : (file : ℕ) (x y : List ℕ) (d e f : Disk) → WroteFile file x d e → WroteFile file y e f → WroteFile file (x ++ y) d f
wrote_then file x y d e f v w =
    let same : e.target file ≡ d.target file = ap (λ (t : ℕ → List ℕ). t file) v.target in
    record {
      grown = λ had h.
          let now : bytes_of e.files (e.target file) ≡ Some (had ++ x) = ap (bytes_of e.files) same ∙ v.grown had h in
          ap (bytes_of f.files) (sym same) ∙ w.grown (had ++ x) now ∙ ap Some (append_assoc had x y);
      others = λ other ne. w.others other (λ is. ne (is ∙ same)) ∙ v.others other ne;
      target = w.target ∙ v.target;
    }

-- a call wrote these bytes to the file's end
pub wrote_once : (file : ℕ) (bytes : List ℕ) (d e : Disk) → IsWritten file bytes d e → WroteFile file bytes d e
wrote_once file bytes d e w = record { grown = w.grown; others = w.others; target = w.targets }

pub gave_more : (file : ℕ) (text rest piece after : List ℕ) (f g h : Option Disk) → rest ≡ piece ++ after → Gave file text rest f g → Told g h (WroteFile file piece) → Gave file text after f h
gave_more file text rest piece after f g h parts gave w = record {
  done = gave.done ++ piece;
  parts = gave.parts ∙ ap (λ (x : List ℕ). gave.done ++ x) parts ∙ sym (append_assoc gave.done piece after);
  wrote = told_then f g h (WroteFile file gave.done) (WroteFile file piece) (WroteFile file (gave.done ++ piece)) gave.wrote w (wrote_then file gave.done piece);
}

pub gave_call : (file : ℕ) (text rest piece after : List ℕ) (f g h : Option Disk) → rest ≡ piece ++ after → Gave file text rest f g → Told g h (IsWritten file piece) → Gave file text after f h
gave_call file text rest piece after f g h parts gave w = gave_more file text rest piece after f g h parts gave (told_weaker g h (IsWritten file piece) (WroteFile file piece) w (wrote_once file piece))

-- a call that changed nothing
pub gave_same : (file : ℕ) (text rest : List ℕ) (f g h : Option Disk) → Gave file text rest f g → Told g h (λ d e. e ≡ d) → Gave file text rest f h
gave_same file text rest f g h gave same = record {
  done = gave.done;
  parts = gave.parts;
  wrote = told_then f g h (WroteFile file gave.done) (λ (d e : Disk). e ≡ d) (WroteFile file gave.done) gave.wrote same (λ a b c w is. rw is w);
}

pub gave_all : (file : ℕ) (text rest : List ℕ) (f g : Option Disk) → rest ≡ [] → Gave file text rest f g → Told f g (WroteFile file text)
gave_all file text rest f g none gave =
    let whole : text ≡ gave.done = gave.parts ∙ ap (λ (x : List ℕ). gave.done ++ x) none ∙ append-nil gave.done in
    rw whole gave.wrote

-- a front of the text was given, and not the whole, where something is left
pub gave_some : (file : ℕ) (text rest : List ℕ) (f g : FilesTold) → Gave file text rest f.disk g.disk → 0 < length rest → WroteSome file text f g
gave_some file text rest f g gave some =
    let front : take (length gave.done) text ≡ gave.done = ap (take (length gave.done)) gave.parts ∙ take_at gave.done rest (length gave.done) refl in
    record { m = length gave.done; less = omega (arith, some, ap length gave.parts, length-append gave.done rest); wrote = subst (λ (x : List ℕ). Told f.disk g.disk (WroteFile file x)) (sym front) gave.wrote }

-- a piece of what is left was given in part
pub gave_part : (file : ℕ) (text rest piece after : List ℕ) (f g h : FilesTold) → rest ≡ piece ++ after → Gave file text rest f.disk g.disk → WroteSome file piece g h → WroteSome file text f h
gave_part file text rest piece after f g h parts gave w =
    let cut : rest ≡ take w.m piece ++ (drop w.m piece ++ after) = parts ∙ ap (λ (x : List ℕ). x ++ after) (sym (take-append-drop w.m piece)) ∙ append_assoc (take w.m piece) (drop w.m piece) after in
    let left : length (drop w.m piece) ≡ length piece - w.m = length-drop w.m piece in
    gave_some file text (drop w.m piece ++ after) f h (gave_more file text rest (take w.m piece) (drop w.m piece ++ after) f.disk g.disk h.disk cut gave w.wrote) (omega (arith, left, w.less, length-append (drop w.m piece) after))

pub read_none : (file : ℕ) (d : Disk) → ReadRest file [] d d
read_none file d = (refl, refl)

pub read_more : (file : ℕ) (had piece now : List ℕ) (d e f : Disk) → now ≡ had ++ piece → ReadRest file had d e → ReadRest file piece e f → ReadRest file now d f
read_more file had piece now d e f is p q = (p.0 ∙ ap (λ (x : List ℕ). had ++ x) q.0 ∙ sym (append_assoc had piece (f.left file)) ∙ ap (λ (x : List ℕ). x ++ f.left file) (sym is), q.1 ∙ p.1)

-- an opened file was read to its end, or to more than so many bytes
pub opened_then : (name bytes : List ℕ) (file most : ℕ) (d e f : Disk) → IsOpened name file d e → ReadTo file most bytes e f → IsFound name most bytes d f
opened_then name bytes file most d e f opened read = record {
  more = f.left file;
  bytes_are = opened.whole ∙ ap Some read.read.0;
  whole = read.whole;
  files = read.read.1 ∙ opened.files;
}

pub found_of : (name bytes : List ℕ) (file most : ℕ) (a b c : Option Disk) → Told a b (IsOpened name file) → Told b c (ReadTo file most bytes) → Told a c (IsFound name most bytes)
found_of name bytes file most a b c opened read = told_then a b c (IsOpened name file) (ReadTo file most bytes) (IsFound name most bytes) opened read (opened_then name bytes file most)

-- an opened file was read, and no file changed
pub kept_of : (name : List ℕ) (file : ℕ) (a b c : Option Disk) → Told a b (IsOpened name file) → Told b c SameFiles → Told a c SameFiles
kept_of name file a b c opened kept = told_then a b c (IsOpened name file) SameFiles SameFiles opened kept (λ d e f o k. k ∙ o.files)

pub split_here : (count : ℕ) (rest after : List ℕ) → after ≡ drop count rest → rest ≡ take count rest ++ after
split_here count rest after e = sym (take-append-drop count rest) ∙ ap (λ (x : List ℕ). take count rest ++ x) (sym e)

-- what is left before a piece is the piece and what is left behind it
pub cut_piece : (count : ℕ) (room left after : List ℕ) → take count room ≡ take count left → after ≡ drop count left → left ≡ take count room ++ after
cut_piece count room left after piece rest = sym (take-append-drop count left) ∙ ap (λ (x : List ℕ). x ++ drop count left) (sym piece) ∙ ap (λ (x : List ℕ). take count room ++ x) (sym rest)

-- where a write fails, and where it meets want of memory
pub write_fault : (file : ℕ) (text rest : List ℕ) (f g h : FilesTold) (e : IoFault) → e ≡ Failed → Gave file text rest f.disk g.disk → Stays g.disk h.disk → 0 < length rest → g.write_faults ≡ f.write_faults → HasCause {T = ℕ} g.write_faults h.write_faults (Err e)
    → WroteSome file text f h × Rose f.write_faults h.write_faults
write_fault file text rest f g h Failed is gave same some stood cause = (gave_some file text rest f h (gave_same file text rest f.disk g.disk h.disk gave same) some, omega (arith, stood, cause.0))
write_fault file text rest f g h Memory is gave same some stood cause = absurd cc

pub write_short : (file : ℕ) (text rest : List ℕ) (f g h : FilesTold) (e : IoFault) → e ≡ Memory → Gave file text rest f.disk g.disk → Stays g.disk h.disk → 0 < length rest → g.write_faults ≡ f.write_faults → HasCause {T = ℕ} g.write_faults h.write_faults (Err e)
    → WroteSome file text f h × (h.write_faults ≡ f.write_faults)
write_short file text rest f g h Memory is gave same some stood cause = (gave_some file text rest f h (gave_same file text rest f.disk g.disk h.disk gave same) some, cause ∙ stood)
write_short file text rest f g h Failed is gave same some stood cause = absurd cc

-- a piece was cut in its writing, and with it the text
pub part_stops : (stop : Stop) (file : ℕ) (text rest piece after : List ℕ) (f g h : FilesTold) → rest ≡ piece ++ after → Gave file text rest f.disk g.disk → g.write_faults ≡ f.write_faults → WriteStop file piece g h stop → WriteStop file text f h stop
part_stops stops.Write file text rest piece after f g h parts gave stood w = (gave_part file text rest piece after f g h parts gave w.0, omega (arith, stood, w.1))
part_stops stops.Memory file text rest piece after f g h parts gave stood w = (gave_part file text rest piece after f g h parts gave w.0, w.1 ∙ stood)
part_stops (stops.Design e) file text rest piece after f g h parts gave stood w = absurd w
part_stops stops.Read file text rest piece after f g h parts gave stood w = absurd w
part_stops (stops.Script k) file text rest piece after f g h parts gave stood w = absurd w
part_stops (stops.Unclean a b) file text rest piece after f g h parts gave stood w = absurd w
