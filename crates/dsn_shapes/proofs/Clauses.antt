-- What a call returns by its own words, where it gives what reading gives.
use Rattle.std.proofs.Common.{◌≡◌, ℕ, List, [], Option, Some, None, Result, Ok, Err, IfOk, IfErr, sym, subst, ◌∙◌}
use Rattle.std.specs.Prelude.{IfSome, IfNone}
use Rattle.sexp_text.specs.Forest.{Forest}
use Rattle.area_geometry.specs.declared.shapes.Shape.{Shape}
use Rattle.dsn_lists.specs.declared.faults.DesignFault.{DesignFault}
use Rattle.dsn_lists.specs.declared.faults.ReadWhy.{ReadWhy}
use Rattle.dsn_lists.specs.declared.faults.ReadWhy.TheVariants.{Fault, Memory}
use Rattle.dsn_lists.specs.Results.{Read, Fails, Gives}
use Rattle.dsn_lists.specs.Lists.{collect}
use Rattle.dsn_shapes.specs.declared.quotas.Quota.{Quota}
use Rattle.dsn_shapes.specs.Ahead.{names_ahead}
use Rattle.dsn_shapes.specs.NameLists.{each_once, first_of}
use Rattle.dsn_shapes.specs.Quotas.{quota_behind}
use Rattle.dsn_shapes.specs.QuotaLists.{points_of_shapes, IsTaken, NoQuota}
use Rattle.dsn_shapes.specs.Whys.{IsWhy}
use Rattle.dsn_shapes.proofs.NameLaws.{ahead_is}
use Rattle.dsn_shapes.proofs.QuotaLaws.{quota_behind_is, quota_found, quota_again, quota_fault}

-- ---- over any reading

pub if_found : {X Y : Type 0} (view : X → Y) (r : Result X ReadWhy) (read : Read Y) (P : Y → Type 0) → Gives view r read → ((y : Y) → read ≡ Ok y → P y) → IfOk r (λ x. P (view x))
if_found view (Ok x) read P given found = found (view x) given
if_found view (Err why) read P given found = tt

why_is : {Y : Type 0} (why : ReadWhy) (read : Read Y) (HasFault : DesignFault → Type 0) → Fails why read → ((e : DesignFault) → read ≡ Err e → HasFault e) → IsWhy HasFault why
why_is Memory read HasFault h fault = tt
why_is (Fault e) read HasFault h fault = fault e h

pub if_fault : {X Y : Type 0} (view : X → Y) (r : Result X ReadWhy) (read : Read Y) (HasFault : DesignFault → Type 0) → Gives view r read → ((e : DesignFault) → read ≡ Err e → HasFault e) → IfErr r (IsWhy HasFault)
if_fault view (Ok x) read HasFault given fault = tt
if_fault view (Err why) read HasFault given fault = why_is why read HasFault given fault

pub as_read : {X Y : Type 0} (view : X → Y) (r : Result X ReadWhy) (read other : Read Y) → Gives view r read → read ≡ other → Gives view r other
as_read view r read other given same = subst (λ (x : Read _). Gives view r x) same given

-- ---- quota

pub quota_if_found : (quota : Quota) (ss : List Shape) (r : Option Quota) → r ≡ quota_behind quota ss → IfSome r (IsTaken quota (points_of_shapes ss))
quota_if_found quota ss (Some left) e = quota_found quota left (points_of_shapes ss) (sym (quota_behind_is quota ss) ∙ sym e)
quota_if_found quota ss None e = tt

pub quota_if_none : (quota : Quota) (ss : List Shape) (r : Option Quota) → r ≡ quota_behind quota ss → IfNone r (NoQuota quota (points_of_shapes ss))
quota_if_none quota ss (Some left) e = tt
quota_if_none quota ss None e = quota_fault quota (points_of_shapes ss) (sym (quota_behind_is quota ss) ∙ sym e)

pub quota_if_taken : (quota left : Quota) (ss : List Shape) (r : Option Quota) → r ≡ quota_behind quota ss → IsTaken quota (points_of_shapes ss) left → r ≡ Some left
quota_if_taken quota left ss r e h = e ∙ quota_behind_is quota ss ∙ quota_again quota left (points_of_shapes ss) h

-- ---- names ahead

pub names_if_read : {E : Type 0} (key : List ℕ) (f : Forest) (r : Result (List (List ℕ)) E) → IfOk r (λ names. names ≡ names_ahead key [] f) → IfOk r (λ names. names ≡ each_once (collect (first_of key) f))
names_if_read key f (Ok names) h = h ∙ ahead_is key f
names_if_read key f (Err e) h = tt
