use Rattle.std.proofs.Common.{◌≡◌, ◌<◌, [], List, refl, sym, ap, ◌∙◌, subst, ℕ, arith}
use Rattle.session_wire.specs.Kept.{kept, first_length, IsOverlong}
use Rattle.session_wire.proofs.KeptLines.{overlong_first, overlong_tail}
use Rattle.session_wire.proofs.feeder.Feeder.take_line.Goals as goal

pub returns-then-first_length-gt-LINE_LIMIT_BYTES : goal.returns-then-first_length-gt-LINE_LIMIT_BYTES
returns-then-first_length-gt-LINE_LIMIT_BYTES c =
    let many : 8192 < first_length c.self.inside.lines.items = omega (arith, c.first_length.ensures) in
    (subst (λ (x : List ℕ). IsOverlong x) c.self.view_is (overlong_first c.self.inside.lines.items c.self.inside.tail c.self.invariant.0 many), refl)

pub returns-then-len-gt-LINE_LIMIT_BYTES : goal.returns-then-len-gt-LINE_LIMIT_BYTES
returns-then-len-gt-LINE_LIMIT_BYTES c =
    let after : c.self.inside.lines.items ≡ c.pop_front.new.self.items = c.in_default.ensures.items in
    let rest : c.pop_front.new.self.items ≡ [] = Rattle.std.proofs.lemmas.List.nil_from_length _ (omega (arith, c.in_default.ensures.cases)) in
    let same : kept c.self.inside.lines.items c.self.inside.tail ≡ c.args.self.now = c.self.view_is in
    let tail : c.self.inside.tail ≡ c.args.self.now = ap (λ (ls : List (List ℕ)). kept ls c.self.inside.tail) (sym (after ∙ rest)) ∙ same in
    (subst (λ (x : List ℕ). IsOverlong x) tail (overlong_tail c.self.inside.tail c.self.invariant.1 (omega arith)), ap (λ (ls : List (List ℕ)). kept ls c.self.inside.tail) (sym after) ∙ same)
