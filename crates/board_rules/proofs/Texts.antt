-- Names in a set, as their texts.
use Rattle.std.proofs.Common.{◌≡◌, ℕ, ◌+◌, List, [], ◌∷◌, ◌++◌, Bool, true, false, cond, refl, sym, ap, ◌∙◌}
use Rattle.std.specs.Prelude.{not, ◌||◌}
use Rattle.std.specs.List.{list_any, position_or_len}
use Rattle.std.specs.Str.{bytes_eq}
use Rattle.std.specs.Global.{Vec}
use Rattle.std.proofs.lemmas.List.{map-append}
use Rattle.indexmap.specs.IndexSet.{insert_key}
use Rattle.board_rules.specs.Numbers.{texts, number_of, with_name}

any_text : (ks : List (Vec ℕ)) (n : List ℕ) → list_any (bytes_eq n) (texts ks) ≡ list_any (λ (v : Vec ℕ). bytes_eq n v.items) ks
any_text [] n = refl
any_text (k ∷ ks) n = ap (λ (b : Bool). bytes_eq n k.items || b) (any_text ks n)

place_text : (ks : List (Vec ℕ)) (n : List ℕ) → position_or_len (λ (v : Vec ℕ). bytes_eq n v.items) ks ≡ number_of (texts ks) n
place_text [] n = refl
place_text (k ∷ ks) n = ap (λ (i : ℕ). cond (not (bytes_eq n k.items)) (1 + i) 0) (place_text ks n)

-- the place of a name in the set is its number
pub text_number : (ks : List (Vec ℕ)) (k : Vec ℕ) (n : List ℕ) → k.items ≡ n → position_or_len (λ (v : Vec ℕ). bytes_eq k.items v.items) ks ≡ number_of (texts ks) n
text_number ks k n is = place_text ks k.items ∙ ap (λ (m : List ℕ). number_of (texts ks) m) is

-- the texts with one more name
pub text_put : (ks : List (Vec ℕ)) (k : Vec ℕ) (n : List ℕ) → k.items ≡ n → texts (insert_key (λ (v w : Vec ℕ). bytes_eq v.items w.items) ks k) ≡ with_name (texts ks) n
text_put ks k n is =
    by (list_any (λ (v : Vec ℕ). bytes_eq k.items v.items) ks)
    ∙ ap (λ (b : Bool). cond b (texts ks) (texts ks ++ k.items ∷ [])) (sym (any_text ks k.items))
    ∙ ap (λ (m : List ℕ). with_name (texts ks) m) is
  where
    by : (b : Bool) → texts (cond b ks (ks ++ k ∷ [])) ≡ cond b (texts ks) (texts ks ++ k.items ∷ [])
    by true = refl
    by false = map-append (λ (v : Vec ℕ). v.items) ks (k ∷ [])
