use Rattle.std.proofs.Common.{◌≡◌, ◌+◌, ◌++◌, [], ◌∷◌, ap, refl, ◌∙◌}
use Rattle.board_items.specs.declared.requests.Request.{Request}
use Rattle.board_items.specs.declared.history.Act.TheVariants.{Ask}
use Rattle.board_items.specs.Weights.{weight_of}
use Rattle.script_replay.proofs.Journals.{asked, not_full}
use Rattle.script_replay.proofs.master.ask.Goals as goal

pub returns : goal.returns
returns g c =
    let m = c.args.master.now in
    let mid = c.decide.new.master in
    let reply = c.in_ok-reply.reply in
    let base = c.len-base.result in
    let weight = c.weight-weight.result in
    let weighs : weight ≡ weight_of (Ask c.args.request.now) = c.weight-weight.ensures ∙ ap (λ (r : Request). weight_of (Ask r)) c.in_ok-copy.ensures in
    let history : c.push.new.self ≡ mid.history ++ record { client = c.args.client; base = base; act = Ask c.args.request.now; reply = reply } ∷ [] =
    c.in_ok-push.ensures ∙ ap (λ (r : Request). mid.history ++ record { client = c.args.client; base = base; act = Ask r; reply = reply } ∷ []) c.in_ok-copy.ensures in
    asked c.args.design.now m mid (record { board = mid.board; journal = mid.journal; history = c.push.new.self; weight = mid.weight + weight; present = mid.present }) c.args.client base weight c.args.request.now reply
    c.requires.master c.requires.formed c.requires.present weighs (λ over. not_full c.is_full.result c.if-is_full.false (c.is_full.ensures.1 over)) c.len-base.ensures c.in_ok-reply.ensures refl refl history refl refl
