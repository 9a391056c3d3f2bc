use Rattle.std.proofs.Common.{refl}
use Rattle.std.specs.Prelude.{codes, ◌∷◌, ◌++◌}
use Rattle.session_wire.proofs.Stops.{not_true}
use Rattle.session_wire.proofs.Halts.{same_halt}
use Rattle.session_wire.proofs.RequestTexts.{bad_request_left, stops_in_request}
use Rattle.session_wire.proofs.requests.request_behind.Goals as goal

pub returns-then-is_word-clause-err : goal.returns-then-is_word-clause-err
returns-then-is_word-clause-err c =
    same_halt c.edit_at.result c.edit_at.ensures.err (λ left. stops_in_request (codes "edit") (32 ∷ (c.args.word.now ++ c.args.rest.now)) c.args.word.now c.args.rest.now left c.requires.ends refl (c.if-is_word.ensures.0 refl))

pub returns-then-is_word-2-clause-err : goal.returns-then-is_word-2-clause-err
returns-then-is_word-2-clause-err c =
    same_halt c.reserve_at.result c.reserve_at.ensures.err (λ left. stops_in_request (codes "reserve") (32 ∷ (c.args.word.now ++ c.args.rest.now)) c.args.word.now c.args.rest.now left c.requires.ends refl (c.if-is_word-2.ensures.0 refl))

pub returns-then-is_word-3-clause-err : goal.returns-then-is_word-3-clause-err
returns-then-is_word-3-clause-err c =
    same_halt c.release_at.result c.release_at.ensures.err (λ left. stops_in_request (codes "release") (32 ∷ (c.args.word.now ++ c.args.rest.now)) c.args.word.now c.args.rest.now left c.requires.ends refl (c.if-is_word-3.ensures.0 refl))

pub returns-then-is_word-4-clause-err : goal.returns-then-is_word-4-clause-err
returns-then-is_word-4-clause-err c =
    same_halt c.fence_at.result c.fence_at.ensures.err (λ left. stops_in_request (codes "fence") (32 ∷ (c.args.word.now ++ c.args.rest.now)) c.args.word.now c.args.rest.now left c.requires.ends refl (c.if-is_word-4.ensures.0 refl))

pub returns-then-is_word-5-clause-err : goal.returns-then-is_word-5-clause-err
returns-then-is_word-5-clause-err c =
    same_halt c.unfence_at.result c.unfence_at.ensures.err (λ left. stops_in_request (codes "unfence") (32 ∷ (c.args.word.now ++ c.args.rest.now)) c.args.word.now c.args.rest.now left c.requires.ends refl (c.if-is_word-5.ensures.0 refl))

pub returns-then-is_word-6-clause-err : goal.returns-then-is_word-6-clause-err
returns-then-is_word-6-clause-err c =
    same_halt c.entitle_at.result c.entitle_at.ensures.err (λ left. stops_in_request (codes "entitle") (32 ∷ (c.args.word.now ++ c.args.rest.now)) c.args.word.now c.args.rest.now left c.requires.ends refl (c.if-is_word-6.ensures.0 refl))

pub returns-then-is_word-7-clause-err : goal.returns-then-is_word-7-clause-err
returns-then-is_word-7-clause-err c =
    same_halt c.rule_at.result c.rule_at.ensures.err (λ left. stops_in_request (codes "rule") (32 ∷ (c.args.word.now ++ c.args.rest.now)) c.args.word.now c.args.rest.now left c.requires.ends refl (c.if-is_word-7.ensures.0 refl))

pub returns-clause-err : goal.returns-clause-err
returns-clause-err c =
    bad_request_left c.args.word.now c.args.rest.now c.requires.word c.requires.ends (record {
      no_edit = λ e. not_true (c.if-is_word.ensures.1 e);
      no_reserve = λ e. not_true (c.if-is_word-2.ensures.1 e);
      no_release = λ e. not_true (c.if-is_word-3.ensures.1 e);
      no_fence = λ e. not_true (c.if-is_word-4.ensures.1 e);
      no_unfence = λ e. not_true (c.if-is_word-5.ensures.1 e);
      no_entitle = λ e. not_true (c.if-is_word-6.ensures.1 e);
      no_rule = λ e. not_true (c.if-is_word-7.ensures.1 e);
    })
