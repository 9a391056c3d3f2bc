-- The journal of a longer history.
use Rattle.std.proofs.Common.{◌≡◌, ℕ, ◌≤◌, List, [], ◌∷◌, ◌++◌, length, take, refl, ap, sym, ◌∙◌}
use Rattle.std.proofs.lemmas.List.{append_assoc, take-append-le}
use Rattle.board_items.specs.declared.history.Call.{Call}
use Rattle.board_core.specs.Histories.{journal_of, entries_by}
use Rattle.client_desk.specs.Given.{StartsWith}
use Rattle.client_desk.proofs.Fronts.{starts_length}

pub journal_of-append : (h k : List Call) → journal_of (h ++ k) ≡ journal_of h ++ journal_of k
journal_of-append [] k = refl
journal_of-append (c ∷ h) k =
    ap (λ w. entries_by c.client c.act c.reply ++ w) (journal_of-append h k) ∙ sym (append_assoc (entries_by c.client c.act c.reply) (journal_of h) (journal_of k))

pub journal_starts : (h k : List Call) → StartsWith h k → StartsWith (journal_of h) (journal_of k)
journal_starts h k p = (journal_of p.0, ap journal_of p.1 ∙ journal_of-append k p.0)

pub journal_longer : (h k : List Call) → StartsWith h k → length (journal_of k) ≤ length (journal_of h)
journal_longer h k p = starts_length (journal_of h) (journal_of k) (journal_starts h k p)

-- the first entries of a longer history are those of the shorter one
pub first_entries : (h k : List Call) (n : ℕ) → StartsWith h k → n ≤ length (journal_of k) → take n (journal_of h) ≡ take n (journal_of k)
first_entries h k n p le =
    let j = journal_starts h k p in
    ap (λ w. take n w) j.1 ∙ take-append-le n (journal_of k) j.0 le
