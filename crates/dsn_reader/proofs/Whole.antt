-- The wiring of a design is read exactly where the design has it, and its first fault is the one that is told.
use Rattle.std.proofs.Common.{◌≡◌, ℕ, ◌≤◌, List, length, Result, Ok, Err, IfOk, IfErr, sym, subst}
use Rattle.sexp_text.specs.Forest.{Forest}
use Rattle.sexp_text.specs.declared.units.Unit.{Unit as LengthUnit}
use Rattle.dsn_lists.specs.declared.faults.DesignFault.{DesignFault}
use Rattle.dsn_lists.specs.declared.faults.ReadWhy.{ReadWhy}
use Rattle.dsn_lists.specs.declared.faults.ReadWhy.TheVariants.{Fault, Memory}
use Rattle.dsn_lists.specs.declared.pcb.Section.TheVariants as sections
use Rattle.dsn_lists.specs.Results.{Fails, Gives}
use Rattle.dsn_lists.specs.Units.{governing}
use Rattle.dsn_lists.specs.Pcbs.{Spot, section_in}
use Rattle.dsn_lists.specs.Measures.{governing_unit}
use Rattle.dsn_lists.proofs.Whole.{whole_found, whole_again, whole_fault, whole_fault_again}
use Rattle.dsn_lists.proofs.UnitLaws.{governs}
use Rattle.dsn_shapes.specs.declared.quotas.Quota.{Quota}
use Rattle.dsn_library.specs.declared.library.Library.{Library}
use Rattle.dsn_reader.specs.declared.wiring.Wiring.{Wiring}
use Rattle.dsn_reader.specs.Wirings.{Netted, netted, wiring_at, wiring_of}
use Rattle.dsn_reader.specs.Meaning.{IsWiring, IsFirstFault, HasWiring, WiringFault, WhyNot}
use Rattle.dsn_reader.proofs.SectionLaws.{section_found, section_again, section_fault, section_fault_again}

-- ---- the section at its place

at_found : (u : LengthUnit) (layers : List (List ℕ)) (l : Library) (nets : List (List ℕ)) (quota : Quota) (p : Spot) (x : Netted Wiring) → length nets ≤ 100000 → wiring_at u layers l nets quota p ≡ Ok x → IsWiring (governing_unit u p.args) layers l nets quota p.args x
unfolding wiring_at
at_found u layers l nets quota p x few e = subst (λ (v : LengthUnit). IsWiring v layers l nets quota p.args x) (governs u p.args) (section_found (governing u p.args) layers l nets quota p.args x few e)

at_again : (u : LengthUnit) (layers : List (List ℕ)) (l : Library) (nets : List (List ℕ)) (quota : Quota) (p : Spot) (x : Netted Wiring) → IsWiring (governing_unit u p.args) layers l nets quota p.args x → wiring_at u layers l nets quota p ≡ Ok x
unfolding wiring_at
at_again u layers l nets quota p x h = section_again (governing u p.args) layers l nets quota p.args x (subst (λ (v : LengthUnit). IsWiring v layers l nets quota p.args x) (sym (governs u p.args)) h)

at_fault : (u : LengthUnit) (layers : List (List ℕ)) (l : Library) (nets : List (List ℕ)) (quota : Quota) (p : Spot) (e : DesignFault) → length nets ≤ 100000 → wiring_at u layers l nets quota p ≡ Err e → IsFirstFault (governing_unit u p.args) layers l nets quota p.args e
unfolding wiring_at
at_fault u layers l nets quota p e few h = subst (λ (v : LengthUnit). IsFirstFault v layers l nets quota p.args e) (governs u p.args) (section_fault (governing u p.args) layers l nets quota p.args e few h)

at_fault_again : (u : LengthUnit) (layers : List (List ℕ)) (l : Library) (nets : List (List ℕ)) (quota : Quota) (p : Spot) (e : DesignFault) → IsFirstFault (governing_unit u p.args) layers l nets quota p.args e → wiring_at u layers l nets quota p ≡ Err e
unfolding wiring_at
at_fault_again u layers l nets quota p e h = section_fault_again (governing u p.args) layers l nets quota p.args e (subst (λ (v : LengthUnit). IsFirstFault v layers l nets quota p.args e) (sym (governs u p.args)) h)

-- ---- the wiring of a design

pub has_found : (f : Forest) (layers : List (List ℕ)) (l : Library) (nets : List (List ℕ)) (quota : Quota) (x : Netted Wiring) → length nets ≤ 100000 → wiring_of f layers l nets quota ≡ Ok x → HasWiring f layers l nets quota x
unfolding wiring_of
has_found f layers l nets quota x few e =
    whole_found (λ t. wiring_at t.unit layers l nets quota (section_in sections.Wiring f))
    (λ t. IsWiring (governing_unit t.unit (section_in sections.Wiring f).args) layers l nets quota (section_in sections.Wiring f).args x) f x (λ t k. at_found t.unit layers l nets quota (section_in sections.Wiring f) x few k) e

pub has_again : (f : Forest) (layers : List (List ℕ)) (l : Library) (nets : List (List ℕ)) (quota : Quota) (x : Netted Wiring) → HasWiring f layers l nets quota x → wiring_of f layers l nets quota ≡ Ok x
unfolding wiring_of
has_again f layers l nets quota x h =
    whole_again (λ t. wiring_at t.unit layers l nets quota (section_in sections.Wiring f))
    (λ t. IsWiring (governing_unit t.unit (section_in sections.Wiring f).args) layers l nets quota (section_in sections.Wiring f).args x) f x (λ t k. at_again t.unit layers l nets quota (section_in sections.Wiring f) x k) h

pub why_found : (f : Forest) (layers : List (List ℕ)) (l : Library) (nets : List (List ℕ)) (quota : Quota) (e : DesignFault) → length nets ≤ 100000 → wiring_of f layers l nets quota ≡ Err e → WiringFault f layers l nets quota e
unfolding wiring_of
why_found f layers l nets quota e few h =
    whole_fault (λ t. wiring_at t.unit layers l nets quota (section_in sections.Wiring f))
    (λ t. IsFirstFault (governing_unit t.unit (section_in sections.Wiring f).args) layers l nets quota (section_in sections.Wiring f).args e) f e (λ t k. at_fault t.unit layers l nets quota (section_in sections.Wiring f) e few k) h

pub why_again : (f : Forest) (layers : List (List ℕ)) (l : Library) (nets : List (List ℕ)) (quota : Quota) (e : DesignFault) → WiringFault f layers l nets quota e → wiring_of f layers l nets quota ≡ Err e
unfolding wiring_of
why_again f layers l nets quota e h =
    whole_fault_again (λ t. wiring_at t.unit layers l nets quota (section_in sections.Wiring f))
    (λ t. IsFirstFault (governing_unit t.unit (section_in sections.Wiring f).args) layers l nets quota (section_in sections.Wiring f).args e) f e (λ t k. at_fault_again t.unit layers l nets quota (section_in sections.Wiring f) e k) h

pub is_found : (f : Forest) (layers : List (List ℕ)) (l : Library) (nets new : List (List ℕ)) (quota : Quota) (r : Result Wiring ReadWhy) → length nets ≤ 100000 → Gives (λ (w : Wiring). netted new w) r (wiring_of f layers l nets quota)
    → IfOk r (λ (w : Wiring). HasWiring f layers l nets quota (netted new w))
is_found f layers l nets new quota (Ok w) few given = has_found f layers l nets quota (netted new w) few given
is_found f layers l nets new quota (Err why) few given = tt

why_not : (f : Forest) (layers : List (List ℕ)) (l : Library) (nets : List (List ℕ)) (quota : Quota) (why : ReadWhy) → length nets ≤ 100000 → Fails why (wiring_of f layers l nets quota) → WhyNot f layers l nets quota why
why_not f layers l nets quota Memory few h = tt
why_not f layers l nets quota (Fault e) few h = why_found f layers l nets quota e few h

pub is_fault : (f : Forest) (layers : List (List ℕ)) (l : Library) (nets new : List (List ℕ)) (quota : Quota) (r : Result Wiring ReadWhy) → length nets ≤ 100000 → Gives (λ (w : Wiring). netted new w) r (wiring_of f layers l nets quota)
    → IfErr r (WhyNot f layers l nets quota)
is_fault f layers l nets new quota (Ok w) few given = tt
is_fault f layers l nets new quota (Err why) few given = why_not f layers l nets quota why few given

pub is_only : (f : Forest) (layers : List (List ℕ)) (l : Library) (nets new : List (List ℕ)) (quota : Quota) (r : Result Wiring ReadWhy) → Gives (λ (w : Wiring). netted new w) r (wiring_of f layers l nets quota)
    → (x : Netted Wiring) → HasWiring f layers l nets quota x → Gives (λ (w : Wiring). netted new w) r (Ok x)
is_only f layers l nets new quota r given x h = subst (λ (y : Result (Netted Wiring) DesignFault). Gives (λ (w : Wiring). netted new w) r y) (has_again f layers l nets quota x h) given

pub is_first : (f : Forest) (layers : List (List ℕ)) (l : Library) (nets new : List (List ℕ)) (quota : Quota) (r : Result Wiring ReadWhy) → Gives (λ (w : Wiring). netted new w) r (wiring_of f layers l nets quota)
    → (e : DesignFault) → WiringFault f layers l nets quota e → Gives (λ (w : Wiring). netted new w) r (Err e)
is_first f layers l nets new quota r given e h = subst (λ (y : Result (Netted Wiring) DesignFault). Gives (λ (w : Wiring). netted new w) r y) (why_again f layers l nets quota e h) given
