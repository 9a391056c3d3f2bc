-- A need is the same both ways round.
use Rattle.std.proofs.Common.{◌≡◌, ℕ, List, [], ◌∷◌, max, ◌&&◌, ◌||◌, arith, refl, ap, ◌∙◌}
use Rattle.std.specs.Prelude.{not, slice_get, Option, Some, None, ◌==◌, if◌then◌else◌}
use Rattle.std.proofs.Math.Bool.{or_comm, and_comm}
use Rattle.std.proofs.Math.Nat.{max_comm}
use Rattle.board_items.specs.declared.items.Item.{Item}
use Rattle.board_rules.specs.declared.design.Kind.{Kind}
use Rattle.board_rules.specs.declared.design.Kind.TheVariants as kinds
use Rattle.board_rules.specs.declared.design.What.{What}
use Rattle.board_rules.specs.declared.design.What.TheVariants as whats
use Rattle.board_rules.specs.declared.design.Stated.{Stated}
use Rattle.board_rules.specs.declared.design.Parts.{Parts}
use Rattle.board_rules.specs.declared.needs.Role.{Role}
use Rattle.board_rules.specs.declared.needs.Role.TheVariants.{Copper, Keepout}
use Rattle.board_rules.specs.Classes.{same_kind, same_what, or_else, or_zero, value_of, is_one_smd, untyped_at, own_value, stated_in, class_of, value_in}
use Rattle.board_rules.specs.Pairs.{name_of, pair_rows, given_by, between, pair_value}
use Rattle.board_items.specs.Adds.{is_fixed}
use Rattle.board_rules.specs.Needs.{or_number, copper_gap, gap_of, need_in, role_of, net_of, is_same_net}
use Rattle.board_rules.proofs.Named.{named_turned}

pair_turned : (what : What) (k l : Kind) → same_what what (whats.Pair k l) ≡ same_what what (whats.Pair l k)
pair_turned whats.Untyped k l = refl
pair_turned whats.DefaultSmd k l = refl
pair_turned (whats.Pair a b) k l = or_comm (same_kind a k && same_kind b l) (same_kind a l && same_kind b k)

pub value_turned : (rows : List Stated) (k l : Kind) → value_of (whats.Pair k l) rows ≡ value_of (whats.Pair l k) rows
value_turned [] k l = refl
value_turned (s ∷ rest) k l = λ i. or_else (value_turned rest k l i) (if pair_turned s.what k l i then Some s.value else None)

smd_turned : (k l : Kind) → is_one_smd k l ≡ is_one_smd l k
smd_turned k l = or_comm (same_kind k kinds.Smd && not (same_kind l kinds.Smd)) (same_kind l kinds.Smd && not (same_kind k kinds.Smd))

own_turned : (p : Parts) (us : List (Option ℕ)) (class : ℕ) (k l : Kind) → own_value p us class k l ≡ own_value p us class l k
own_turned p us class k l =
    let rows = stated_in (slice_get p.classes class) in
    λ i. or_else (or_else (value_turned rows k l i) (if smd_turned k l i then value_of whats.DefaultSmd rows else None)) (untyped_at us class)

value_in_turned : (p : Parts) (us : List (Option ℕ)) (class : ℕ) (k l : Kind) → value_in p us class k l ≡ value_in p us class l k
value_in_turned p us class k l = λ i. or_zero (or_else (own_turned p us class k l i) (own_turned p us 0 k l i))

given_turned : (rows : List Stated) (k l : Kind) → given_by rows k l ≡ given_by rows l k
given_turned rows k l = λ i. or_else (or_else (value_turned rows k l i) (if smd_turned k l i then value_of whats.DefaultSmd rows else None)) (value_of whats.Untyped rows)

between_turned : (p : Parts) (c d : ℕ) (k l : Kind) → between p c d k l ≡ between p d c l k
between_turned p c d k l = ap (λ (rows : List Stated). given_by rows k l) (named_turned p (name_of p c) (name_of p d)) ∙ given_turned (pair_rows p d c) k l

pair_value_turned : (p : Parts) (c d : ℕ) (k l : Kind) → pair_value p c d k l ≡ pair_value p d c l k
pair_value_turned p c d k l = λ i. if or_comm (c == 0) (d == 0) i then None else between_turned p c d k l i

larger_turned : (p : Parts) (us : List (Option ℕ)) (c d : ℕ) (k l : Kind) → max (value_in p us c k l) (value_in p us d k l) ≡ max (value_in p us d l k) (value_in p us c l k)
larger_turned p us c d k l = max_comm (value_in p us c k l) (value_in p us d k l) ∙ (λ i. max (value_in_turned p us d k l i) (value_in_turned p us c k l i))

copper_turned : (p : Parts) (us : List (Option ℕ)) (k : Kind) (c : ℕ) (l : Kind) (d : ℕ) → copper_gap p us k c l d ≡ copper_gap p us l d k c
copper_turned p us k c l d = λ i. max 1 (or_number (pair_value_turned p c d k l i) (larger_turned p us c d k l i))

gap_turned : (p : Parts) (us : List (Option ℕ)) (a : Role) (net : Option ℕ) (b : Role) (other : Option ℕ) → gap_of p us a net b other ≡ gap_of p us b other a net
gap_turned p us (Copper k) net (Copper l) other = ap Some (copper_turned p us k (class_of p net) l (class_of p other))
gap_turned p us (Copper k) net (Keepout keep) other = refl
gap_turned p us (Keepout keep) net (Copper l) other = refl
gap_turned p us (Keepout keep) net (Keepout other_keep) other = refl

number_turned : (n m : ℕ) → (n == m) ≡ (m == n)
number_turned n m = grind arith

net_turned : (a b : Option ℕ) → is_same_net a b ≡ is_same_net b a
net_turned None None = refl
net_turned None (Some m) = refl
net_turned (Some n) None = refl
net_turned (Some n) (Some m) = number_turned n m

-- two items have the same need both ways round
pub need_turned : (p : Parts) (us : List (Option ℕ)) (a b : Item) → need_in p us a b ≡ need_in p us b a
need_turned p us a b = λ i.
    if net_turned (net_of a) (net_of b) i || and_comm (is_fixed a) (is_fixed b) i then None else gap_turned p us (role_of a) (net_of a) (role_of b) (net_of b) i
