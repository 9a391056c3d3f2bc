use Rattle.std.proofs.Common.{◌<◌, length, subst, sym}
use Rattle.session_tests.specs.MemoryDesks.{DeskState}
use Rattle.session_tests.proofs.Growing.{kept_noted, noted}
use Rattle.session_tests.proofs.memory_desk.MemDesk.note.Goals as goal

pub invariant_of-self : goal.invariant_of-self
invariant_of-self c =
    let d = c.self.inside in
    let j = c.note_entry.new.journal.items in
    let room : length d.journal.items < d.most = subst (λ (s : DeskState). length s.journal < s.most) (sym c.self.view_is) c.requires.room in
    kept_noted d.client c.args.client d.most d.shown d.journal.items j d.answers.items c.args.request c.self.invariant c.requires.some_client c.requires.client_fits c.requires.formed
    (noted c.note_entry.result c.args.client d.most c.args.request d.journal.items j room c.note_entry.ensures.ok c.note_entry.ensures.err)
