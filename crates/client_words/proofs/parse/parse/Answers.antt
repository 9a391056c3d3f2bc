use Rattle.std.proofs.Common.{◌≡◌, ◌∙◌, List, ℕ, map}
use Rattle.std.specs.Borrow.{Bor}
use Rattle.clap.specs.Words.{app_of, kind_of}
use Rattle.clap.specs.declared.error.kind.ErrorKind.TheVariants.{OutOfMemory}
use Rattle.client_words.proofs.Parses.{found_words, taken_so}
use Rattle.client_words.proofs.parse.parse.Goals as goal

pub returns-in-Ok-clause-ok : goal.returns-in-Ok-clause-ok
returns-in-Ok-clause-ok c = λ words e.
    found_words (app_of c.in_ok-command.command) (map (λ (s : Bor (List ℕ)). s.now) c.args.all.now) words c.in-Ok.matches c.in_ok-command.ensures e c.in-Ok.ensures.kinds c.in-Ok.ensures.matches

pub returns : goal.returns
returns c = record {
  ok = tt;
  usage = λ same words e three. c.in_default.not-OutOfMemory (c.kind.ensures ∙ taken_so (kind_of c.in-Err.error ≡ OutOfMemory) (app_of c.in_ok-command.command) (map (λ (s : Bor (List ℕ)). s.now) c.args.all.now) words c.in_ok-command.ensures e c.in-Err.ensures.passes three);
}
