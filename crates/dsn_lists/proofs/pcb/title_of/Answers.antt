use Rattle.std.proofs.Common.{subst, Result}
use Rattle.dsn_lists.specs.declared.faults.DesignFault.{DesignFault}
use Rattle.dsn_lists.specs.declared.pcb.Title.{Title}
use Rattle.dsn_lists.specs.Results.{Gives}
use Rattle.dsn_lists.proofs.TitleLaws.{title_again, why_title}
use Rattle.dsn_lists.proofs.TitleClauses.{is_title, is_fault}
use Rattle.dsn_lists.proofs.pcb.title_of.Goals as goal

pub returns-clause-found : goal.returns-clause-found
returns-clause-found c = is_title _ c.read_title.result c.read_title.ensures

pub returns-clause-only : goal.returns-clause-only
returns-clause-only c = λ t h. subst (λ (x : Result Title DesignFault). Gives (λ (t : Title). t) c.read_title.result x) (title_again _ t h) c.read_title.ensures

pub returns-clause-fault : goal.returns-clause-fault
returns-clause-fault c = is_fault _ c.read_title.result c.read_title.ensures

pub returns-clause-first : goal.returns-clause-first
returns-clause-first c = λ e h. subst (λ (x : Result Title DesignFault). Gives (λ (t : Title). t) c.read_title.result x) (why_title _ e h) c.read_title.ensures
