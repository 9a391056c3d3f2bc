-- Lists that hold a word or words, and what is wrong with one that doesn't.
use Rattle.std.specs.Prelude.{◌≡◌, ℕ, Bool, true, false, List, [], ◌∷◌}
use Rattle.sexp_text.specs.Forest.{Forest, End, Word, Branch}
use Rattle.dsn_lists.specs.declared.faults.DesignFault.{DesignFault}
use Rattle.dsn_lists.specs.declared.faults.DesignKind.TheVariants.{Form}
use Rattle.dsn_lists.specs.declared.marks.Mark.{Mark}
use Rattle.dsn_lists.specs.Words.{mark}
use Rattle.dsn_lists.specs.Lists.{told}

-- no word stands here; lists are read over
abbrev pub only_lists : Forest → Bool
only_lists End = true
only_lists (Word at text rest) = false
only_lists (Branch at inside rest) = only_lists rest

-- behind lists that are read over a word is too many
abbrev pub HasStray : Forest → DesignFault → Type 0
HasStray End e = ⊥
HasStray (Word at text rest) e = e ≡ told Form at
HasStray (Branch at inside rest) e = HasStray rest e

-- a word stands first, and this holds of it and of what follows
abbrev pub HasWord : (List ℕ → Forest → Type 0) → Forest → Type 0
HasWord Holds End = ⊥
HasWord Holds (Word a text rest) = Holds text rest
HasWord Holds (Branch a inside rest) = ⊥

-- the list that begins at this byte has no first word; or it has, and this is the fault of the word and what follows
abbrev pub NoWordOr : (ℕ → List ℕ → Forest → DesignFault → Type 0) → ℕ → Forest → DesignFault → Type 0
NoWordOr HasFault at End e = e ≡ told Form at
NoWordOr HasFault at (Word a text rest) e = HasFault a text rest e
NoWordOr HasFault at (Branch a inside rest) e = e ≡ told Form a

-- one word stands here
abbrev pub IsOneWord : Forest → Type 0
IsOneWord f = HasWord (λ text rest. only_lists rest ≡ true) f

-- the fault of a list that is to hold one word
abbrev pub OneWordFault : ℕ → Forest → DesignFault → Type 0
OneWordFault at f e = NoWordOr (λ a text rest e. HasStray rest e) at f e

-- the words up to a list or the end
abbrev pub first_words : Forest → List Mark
first_words End = []
first_words (Word at text rest) = mark at text ∷ first_words rest
first_words (Branch at inside rest) = []

-- what follows these words
abbrev pub behind_words : Forest → Forest
behind_words End = End
behind_words (Word at text rest) = behind_words rest
behind_words (Branch at inside rest) = Branch at inside rest

-- one name or more stand here
abbrev pub IsNameList : Forest → Type 0
IsNameList f = HasWord (λ text rest. only_lists (behind_words rest) ≡ true) f

-- the fault of a list that is to hold names
abbrev pub NameListFault : ℕ → Forest → DesignFault → Type 0
NameListFault at f e = NoWordOr (λ a text rest e. HasStray (behind_words rest) e) at f e
