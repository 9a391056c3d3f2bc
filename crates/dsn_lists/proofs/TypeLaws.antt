-- What a `type` list of a clearance names is what is read, and its fault is the one that is told.
use Rattle.std.proofs.Common.{◌≡◌, ℕ, List, ◌++◌, map, Option, Some, None, option_to_list, Ok, Err, refl, sym, ap, ◌∙◌, append_assoc}
use Rattle.std.proofs.lemmas.List.{append-nil, map-append}
use Rattle.sexp_text.specs.Forest.{Forest, End, Word, Branch}
use Rattle.board_rules.specs.declared.design.What.{What}
use Rattle.board_rules.specs.declared.design.Stated.{Stated}
use Rattle.dsn_lists.specs.declared.faults.DesignFault.{DesignFault}
use Rattle.dsn_lists.specs.Results.{Read, ◌>>=◌, each}
use Rattle.dsn_lists.specs.Words.{word_of, spare_list}
use Rattle.dsn_lists.specs.Rules.{what_of, stating, stated_for, type_list}
use Rattle.dsn_lists.specs.TypeNames.{types_named}
use Rattle.dsn_lists.proofs.TypeNameLaws.{types_are}
use Rattle.dsn_lists.specs.ShortLists.{HasStray, behind_words, IsNameList, NameListFault}
use Rattle.dsn_lists.specs.Statements.{whats_in}
use Rattle.dsn_lists.proofs.Firsts.{made, word_fault, word_fault_again}
use Rattle.dsn_lists.proofs.ShortLaws.{spare_again, spare_then, spare_then_again, spare_value}

-- ---- what is stated, with the width that is read

-- the value is stated for each of these
abbrev pub said : ℕ → List What → List Stated
said value whats = map (λ what. record { what = what; value = value }) whats

stating_option : (ss : List Stated) (value : ℕ) (o : Option What) → stating ss value o ≡ ss ++ said value (option_to_list o)
stating_option ss value None = sym (append-nil ss)
stating_option ss value (Some what) = refl

stating_is : (ss : List Stated) (value : ℕ) (text : List ℕ) → stating ss value (what_of text) ≡ ss ++ said value (types_named text)
stating_is ss value text = stating_option ss value (what_of text) ∙ ap (λ (ws : List What). ss ++ said value ws) (types_are text)

pub said_more : (value : ℕ) (ss : List Stated) (xs ys : List What) → (ss ++ said value xs) ++ said value ys ≡ ss ++ said value (xs ++ ys)
said_more value ss xs ys = append_assoc ss (said value xs) (said value ys) ∙ ap (λ (s : List Stated). ss ++ s) (sym (map-append _ xs ys))

stated_is : (f : Forest) (ss : List Stated) (value : ℕ) → stated_for ss value f ≡ (ss ++ said value (whats_in f), behind_words f)
unfolding stated_for
stated_is End ss value = ap (λ (s : List Stated). (s, End)) (sym (append-nil ss))
stated_is (Word at text rest) ss value =
    stated_is rest (stating ss value (what_of text)) value
    ∙ ap (λ (s : List Stated). (s ++ said value (whats_in rest), behind_words rest)) (stating_is ss value text)
    ∙ ap (λ (s : List Stated). (s, behind_words rest)) (said_more value ss (types_named text) (whats_in rest))
stated_is (Branch at inside rest) ss value = ap (λ (s : List Stated). (s, Branch at inside rest)) (sym (append-nil ss))

-- ---- `(type t ..)` of a clearance

-- what follows the first word
abbrev type_rest : List Stated × Forest → Read (List Stated)
type_rest x = each spare_list tt x.1 >>= λ _. made x.0

type_word : (ss : List Stated) (value : ℕ) (text : List ℕ) (rest : Forest)
    → stated_for (stating ss value (what_of text)) value rest ≡ (ss ++ said value (types_named text ++ whats_in rest), behind_words rest)
type_word ss value text rest =
    stated_is rest (stating ss value (what_of text)) value
    ∙ ap (λ (s : List Stated). (s ++ said value (whats_in rest), behind_words rest)) (stating_is ss value text)
    ∙ ap (λ (s : List Stated). (s, behind_words rest)) (said_more value ss (types_named text) (whats_in rest))

pub type_found : (ss : List Stated) (value at : ℕ) (f : Forest) (xs : List Stated) → type_list ss value at f ≡ Ok xs → IsNameList f × (xs ≡ ss ++ said value (whats_in f))
unfolding type_list word_of
type_found ss value at End xs e = absurd cc
type_found ss value at (Branch a inside rest) xs e = absurd cc
type_found ss value at (Word a text rest) xs e =
    let v = spare_value (behind_words rest) (ss ++ said value (types_named text ++ whats_in rest)) xs (ap type_rest (sym (type_word ss value text rest)) ∙ e) in
    (v.0, sym v.1)

pub type_again : (ss : List Stated) (value at : ℕ) (f : Forest) → IsNameList f → type_list ss value at f ≡ Ok (ss ++ said value (whats_in f))
unfolding type_list word_of
type_again ss value at End h = absurd h
type_again ss value at (Branch a inside rest) h = absurd h
type_again ss value at (Word a text rest) h = ap type_rest (type_word ss value text rest) ∙ rw (spare_again (behind_words rest) tt h) refl

pub type_fault : (ss : List Stated) (value at : ℕ) (f : Forest) (e : DesignFault) → type_list ss value at f ≡ Err e → NameListFault at f e
unfolding type_list
type_fault ss value at f e h =
    word_fault _ (λ a text rest e. HasStray (behind_words rest) e) at f e (λ a text rest k.
    spare_then (behind_words rest) (ss ++ said value (types_named text ++ whats_in rest)) e (ap type_rest (sym (type_word ss value text rest)) ∙ k)) h

pub type_fault_again : (ss : List Stated) (value at : ℕ) (f : Forest) (e : DesignFault) → NameListFault at f e → type_list ss value at f ≡ Err e
unfolding type_list
type_fault_again ss value at f e h =
    word_fault_again _ (λ a text rest e. HasStray (behind_words rest) e) at f e (λ a text rest k.
    ap type_rest (type_word ss value text rest) ∙ spare_then_again (behind_words rest) (ss ++ said value (types_named text ++ whats_in rest)) e k) h
