-- What an entry that fits says of the node.
use Rattle.std.proofs.Common.{◌≡◌, ℕ, ◌<◌, List, length, Some, subst}
use Rattle.std.proofs.Common.{arith}
use Rattle.std.specs.Prelude.{slice_get}
use Rattle.std.proofs.lemmas.Option.{get_or_from_slice_get}
use Rattle.std.proofs.Math.Logic.{∥∥₁_elim}
use Rattle.std.proofs.Math.Nat.{ℕ_set}
use Rattle.std.proofs.Props.{props}
use Rattle.sexp_text.specs.Forest.{Forest, End, Word, Branch}
use Rattle.sexp_text.specs.Shows.{grown}
use Rattle.sexp_text.specs.declared.cursor.TreeEntry.{TreeEntry}
use Rattle.sexp_text.specs.declared.cursor.TreeEntry.TheVariants as entries
use Rattle.sexp_text.specs.Nodes.{size, from, IsLaid, Fits}
use Rattle.sexp_text.proofs.Numbered.{lays_size, fits_at}

fits_prop : (pool : List ℕ) (e : TreeEntry) (n count : ℕ) (g : Forest) → IsProp (Fits pool e n count g)
fits_prop pool e n count End = hlevel props
fits_prop pool (entries.Word last at start end) n count (Word a word rest) = hlevel props
fits_prop pool (entries.Word last at start end) n count (Branch a inside rest) = hlevel props
fits_prop pool (entries.List last at k) n count (Word a word rest) = hlevel props
fits_prop pool (entries.List last at k) n count (Branch a inside rest) = hlevel props

pub all_counted : (pool : List ℕ) (es : List TreeEntry) → ∥ IsLaid pool es ∥₁ → length es ≡ size (grown (length es) pool es)
all_counted pool es t = ∥∥₁_elim t (ℕ_set _ _) (λ h. lays_size pool (grown (length es) pool es) es h)

pub entry_fits : (pool : List ℕ) (es : List TreeEntry) (n : ℕ) (e : TreeEntry) → ∥ IsLaid pool es ∥₁ → n < size (grown (length es) pool es) → slice_get es n ≡ Some e
    → Fits pool e n (size (grown (length es) pool es)) (from n (grown (length es) pool es))
entry_fits pool es n e t l g =
    let c = all_counted pool es t in
    let m : n < length es = omega (arith, c, l) in
    ∥∥₁_elim t (fits_prop pool e n (size (grown (length es) pool es)) (from n (grown (length es) pool es)))
    (λ h. subst (λ (k : ℕ). Fits pool e n k (from n (grown (length es) pool es))) c
    (subst (λ (x : TreeEntry). Fits pool x n (length es) (from n (grown (length es) pool es))) (get_or_from_slice_get es n e e g) (fits_at pool (grown (length es) pool es) es n e h m)))
