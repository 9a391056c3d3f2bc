-- What was read of a design apart from its sections is its title, or its first fault.
use Rattle.std.proofs.Common.{Result, Ok, Err, IfOk, IfErr}
use Rattle.sexp_text.specs.Forest.{Forest}
use Rattle.dsn_lists.specs.declared.faults.ReadWhy.{ReadWhy}
use Rattle.dsn_lists.specs.declared.faults.ReadWhy.TheVariants.{Fault, Memory}
use Rattle.dsn_lists.specs.declared.pcb.Title.{Title}
use Rattle.dsn_lists.specs.Results.{Fails, Gives}
use Rattle.dsn_lists.specs.Pcbs.{design_of}
use Rattle.dsn_lists.specs.Titles.{IsTitle, WhyNoTitle}
use Rattle.dsn_lists.proofs.TitleLaws.{title_found, title_why}

pub is_title : (f : Forest) (r : Result Title ReadWhy) → Gives (λ x. x) r (design_of f) → IfOk r (IsTitle f)
is_title f (Ok t) given = title_found f t given
is_title f (Err why) given = tt

why_not : (f : Forest) (why : ReadWhy) → Fails why (design_of f) → WhyNoTitle f why
why_not f Memory h = tt
why_not f (Fault e) h = title_why f e h

pub is_fault : (f : Forest) (r : Result Title ReadWhy) → Gives (λ x. x) r (design_of f) → IfErr r (WhyNoTitle f)
is_fault f (Ok t) given = tt
is_fault f (Err why) given = why_not f why given
