-- What a list stands for stays so with more nets.
use Rattle.std.proofs.Common.{ℕ, List, Some}
use Rattle.sexp_text.specs.Forest.{Forest, End, Word, Branch}
use Rattle.sexp_text.specs.declared.units.Unit.{Unit as LengthUnit}
use Rattle.board_items.specs.declared.items.Item.{Item}
use Rattle.dsn_lists.specs.ShortLists.{behind_words}
use Rattle.dsn_library.specs.declared.library.Library.{Library}
use Rattle.dsn_reader.specs.declared.wiring.WiringWord.{WiringWord}
use Rattle.dsn_reader.specs.declared.wiring.WiringWord.TheVariants as words
use Rattle.dsn_reader.specs.WireLists.{IsWire}
use Rattle.dsn_reader.specs.ViaLists.{AreVias}
use Rattle.dsn_reader.specs.Meaning.{IsOfWiring}
use Rattle.dsn_lists.proofs.Growing.{Grows}
use Rattle.dsn_reader.proofs.EndLaws.{ends_grow}

-- ---- more nets

wire_grows : (u : LengthUnit) (layers a b : List (List ℕ)) (f : Forest) (i : Item) → Grows a b → IsWire u layers a f i → IsWire u layers b f i
wire_grows u layers a b f i g h = record {
  track = h.track;
  net = h.net;
  fix = h.fix;
  draft = record { formed = h.draft.formed; track = h.draft.track; ends = ends_grow a b f (record { net = Some h.net; fix = h.fix }) g h.draft.ends };
  is = h.is;
}

vias_grow : (u : LengthUnit) (l : Library) (a b : List (List ℕ)) (f : Forest) (is : List Item) → Grows a b → AreVias u l a f is → AreVias u l b f is
vias_grow u l a b End is g h = absurd h
vias_grow u l a b (Branch at inside rest) is g h = absurd h
vias_grow u l a b (Word at text rest) is g h =
    let v = h.2 in
    (h.0, h.1, record { points = v.points; net = v.net; fix = v.fix; pairs = v.pairs; some = v.some; ends = ends_grow a b (behind_words rest) (record { net = Some v.net; fix = v.fix }) g v.ends; near = v.near; are = v.are })

pub list_grows : (u : LengthUnit) (layers : List (List ℕ)) (l : Library) (a b : List (List ℕ)) (k : WiringWord) (f : Forest) (is : List Item) → Grows a b → IsOfWiring u layers l a k f is → IsOfWiring u layers l b k f is
list_grows u layers l a b words.Wire f is g h = (h.0, wire_grows u layers a b f h.0 g h.1, h.2)
list_grows u layers l a b words.Via f is g h = vias_grow u l a b f is g h
list_grows u layers l a b words.Unit f is g h = h
list_grows u layers l a b words.Resolution f is g h = absurd h
list_grows u layers l a b words.Other f is g h = h
