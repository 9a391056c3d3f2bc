-- A section of a design is read exactly where the design has it, and its first fault is the one that is told, whatever the
-- section.
use Rattle.std.proofs.Common.{◌≡◌, Result, Ok, Err, IfOk, IfErr, ap, subst, ◌∙◌, inl, inr, ◌⊎◌}
use Rattle.sexp_text.specs.Forest.{Forest}
use Rattle.dsn_lists.specs.declared.faults.DesignFault.{DesignFault}
use Rattle.dsn_lists.specs.declared.faults.ReadWhy.{ReadWhy}
use Rattle.dsn_lists.specs.declared.faults.ReadWhy.TheVariants.{Fault, Memory}
use Rattle.dsn_lists.specs.declared.pcb.Title.{Title}
use Rattle.dsn_lists.specs.Results.{Read, ◌>>=◌, Gives}
use Rattle.dsn_lists.specs.Pcbs.{design_of}
use Rattle.dsn_lists.specs.Titles.{IsTitle, TitleFault}
use Rattle.dsn_lists.proofs.Firsts.{bind_ok, bind_err}
use Rattle.dsn_lists.proofs.TitleLaws.{title_found, title_again, title_why, why_title}

-- ---- behind the title of a design

-- the design has a title, and this holds of it
abbrev Titled : Forest → (Title → Type 0) → Type 0
Titled f Has = (t : Title) × IsTitle f t × Has t

pub whole_found : {A : Type 0} (read : Title → Read A) (Has : Title → Type 0) (f : Forest) (x : A) → ((t : Title) → read t ≡ Ok x → Has t) → (design_of f >>= read) ≡ Ok x → Titled f Has
whole_found read Has f x one e = let t = bind_ok (design_of f) read x e in (t.0, title_found f t.0 t.1, one t.0 t.2)

pub whole_again : {A : Type 0} (read : Title → Read A) (Has : Title → Type 0) (f : Forest) (x : A) → ((t : Title) → Has t → read t ≡ Ok x) → Titled f Has → (design_of f >>= read) ≡ Ok x
whole_again {A} read Has f x one h = ap (λ (r : Read Title). r >>= read) (title_again f h.0 h.1) ∙ one h.0 h.2

pub whole_fault : {A : Type 0} (read : Title → Read A) (HasFault : Title → Type 0) (f : Forest) (e : DesignFault) → ((t : Title) → read t ≡ Err e → HasFault t) → (design_of f >>= read) ≡ Err e
    → TitleFault f e ⊎ Titled f HasFault
whole_fault read HasFault f e one h =
    elim (bind_err (design_of f) read e h) [
      | inl here ↦ inl (title_why f e here)
      | inr later ↦ inr (later.0, title_found f later.0 later.1, one later.0 later.2)
    ]

pub whole_fault_again : {A : Type 0} (read : Title → Read A) (HasFault : Title → Type 0) (f : Forest) (e : DesignFault) → ((t : Title) → HasFault t → read t ≡ Err e) → TitleFault f e ⊎ Titled f HasFault
    → (design_of f >>= read) ≡ Err e
whole_fault_again {A} read HasFault f e one (inl here) = ap (λ (r : Read Title). r >>= read) (why_title f e here)
whole_fault_again {A} read HasFault f e one (inr later) = ap (λ (r : Read Title). r >>= read) (title_again f later.0 later.1) ∙ one later.0 later.2

-- ---- what a call returned that gives what is read

pub is_found : {A : Type 0} (read : Read A) (Has : A → Type 0) (r : Result A ReadWhy) → ((x : A) → read ≡ Ok x → Has x) → Gives (λ (x : A). x) r read → IfOk r Has
is_found read Has (Ok x) one given = one x given
is_found read Has (Err why) one given = tt

pub is_fault : {A : Type 0} (read : Read A) (Why : ReadWhy → Type 0) (r : Result A ReadWhy) → Why Memory → ((e : DesignFault) → read ≡ Err e → Why (Fault e)) → Gives (λ (x : A). x) r read → IfErr r Why
is_fault read Why (Ok x) memory one given = tt
is_fault read Why (Err Memory) memory one given = memory
is_fault read Why (Err (Fault e)) memory one given = one e given

-- what is read is what was returned, unless memory ran out
pub is_given : {A : Type 0} (r : Result A ReadWhy) (read other : Read A) → Gives (λ (x : A). x) r read → read ≡ other → Gives (λ (x : A). x) r other
is_given {A} r read other given same = subst (λ (y : Read A). Gives (λ (x : A). x) r y) same given
