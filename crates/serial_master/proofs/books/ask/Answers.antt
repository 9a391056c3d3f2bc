use Rattle.std.proofs.Common.{◌≡◌, ◌+◌, ◌++◌, [], ◌∷◌, ap, refl, ◌∙◌}
use Rattle.board_items.specs.declared.requests.Request.{Request}
use Rattle.board_items.specs.declared.history.Act.TheVariants.{Ask}
use Rattle.board_items.specs.Weights.{weight_of}
use Rattle.client_desk.specs.Standings.{asked_call}
use Rattle.serial_master.proofs.Keeping.{asked, not_full}
use Rattle.serial_master.proofs.books.ask.Goals as goal

pub returns-clause-ok : goal.returns-clause-ok
returns-clause-ok g c =
    let b = c.args.books.now in
    let t = c.args.terms.now in
    let fin = c.decide.new.books in
    let reply = c.in_ok-reply.reply in
    let base = c.len-base.result in
    let weight = c.weight-weight.result in
    let weighs : weight ≡ weight_of (Ask c.args.request) = c.weight-weight.ensures ∙ ap (λ (r : Request). weight_of (Ask r)) c.in_ok-copy.ensures in
    let history : c.put.new.self.items ≡ fin.history.items ++ asked_call c.args.client base c.args.request reply ∷ [] =
    c.put.ensures.items ∙ ap (λ (r : Request). fin.history.items ++ asked_call c.args.client base r reply ∷ []) c.in_ok-copy.ensures in
    asked t b c.make_room.new.books fin (record { board = fin.board; journal = fin.journal; history = c.put.new.self; weight = fin.weight + weight; present = fin.present }) c.args.client base weight c.len.result c.args.request reply
    c.requires.kept c.requires.formed c.requires.present weighs (λ over. not_full c.is_full.result c.if-is_full.false (c.is_full.ensures.1 over)) c.len-base.ensures
    c.in_ok-make_room.ensures.stayed c.in_ok-make_room.ensures.journal c.in_ok-make_room.ensures.history c.in_ok-reply.ensures.ok refl refl history c.put.ensures.room refl refl c.len.ensures
