-- One call on the link or on the output.
use Rattle.std.specs.Prelude.{◌≡◌, ◌⊎◌, ℕ, List, [], ◌∷◌, ◌++◌, take, Option, Result, Ok, Err, ⊤}
use Rattle.std.specs.Io.KnownBytes.{Appends}
use Rattle.layout_io.specs.Causes.{Rose}
use Rattle.layout_io.specs.Links.{Wire, IsSent}
use Rattle.session_wire.specs.Steps.{IsLine}
use Rattle.session_wire.specs.Kept.{ended}
use Rattle.client_talk.specs.declared.stop.Stop.{Stop}
use Rattle.client_talk.specs.declared.stop.Stop.TheVariants as stops

-- a front of the text was written to the output
abbrev pub Begins : List ℕ → Option (List ℕ) → Option (List ℕ) → Type 0
Begins text old new = (n : ℕ) × Appends old new (take n text)

-- a front of the text was written to the link
abbrev pub SentFront : List ℕ → Wire → Wire → Type 0
SentFront text w v = (front : List ℕ) × (back : List ℕ) × (text ≡ front ++ back) × IsSent front w v

-- a text went to the output
abbrev pub HasPrinted : {T : Type 0} → List ℕ → Option (List ℕ) → Option (List ℕ) → Result T Stop → Type 0
HasPrinted text o p (Ok x) = Appends o p text
HasPrinted text o p (Err stops.Out) = Begins text o p
HasPrinted text o p (Err stops.Memory) = Begins text o p
HasPrinted text o p (Err stops.Link) = ⊥
HasPrinted text o p (Err stops.Ended) = ⊥
HasPrinted text o p (Err stops.Refused) = ⊥

-- a text went to the link
abbrev pub HasSaid : {T : Type 0} → List ℕ → Result T Stop → Wire → Wire → Type 0
HasSaid text (Ok x) w v = IsSent text w v
HasSaid text (Err stops.Link) w v = SentFront text w v
HasSaid text (Err stops.Memory) w v = SentFront text w v
HasSaid text (Err stops.Out) w v = ⊥
HasSaid text (Err stops.Ended) w v = ⊥
HasSaid text (Err stops.Refused) w v = ⊥

-- a read went on: `old` and `new` are the bytes that came and weren't taken
abbrev pub HasRead : {T : Type 0} → List ℕ → List ℕ → Result T Stop → Wire → Wire → Type 0
HasRead old new (Ok x) w v = (old ++ w.left ≡ new ++ v.left) × (v.written ≡ w.written)
HasRead old new (Err stops.Ended) w v = (w.left ≡ []) × (v ≡ w) × (new ≡ old)
HasRead old new (Err stops.Link) w v = v.written ≡ w.written
HasRead old new (Err stops.Memory) w v = v.written ≡ w.written
HasRead old new (Err stops.Out) w v = ⊥
HasRead old new (Err stops.Refused) w v = ⊥

-- the next line was taken off what is to come
abbrev pub HasLine : List ℕ → List ℕ → Result (List ℕ) Stop → Wire → Wire → Type 0
HasLine old new (Ok line) w v = IsLine line × (old ++ w.left ≡ line ++ 10 ∷ (new ++ v.left)) × (v.written ≡ w.written)
HasLine old new (Err stops.Ended) w v = IsLine (old ++ w.left) × (v.left ≡ []) × (v.written ≡ w.written)
HasLine old new (Err stops.Link) w v = v.written ≡ w.written
HasLine old new (Err stops.Memory) w v = v.written ≡ w.written
HasLine old new (Err stops.Out) w v = ⊥
HasLine old new (Err stops.Refused) w v = ⊥

-- nothing more was written to the link, and a front of what is to come to the output
abbrev pub HasBegun : List ℕ → Option (List ℕ) → Option (List ℕ) → Wire → Wire → Type 0
HasBegun old o p w v = (v.written ≡ w.written) × Begins (old ++ w.left) o p

-- the next line was taken off what is to come, and copied to the output
abbrev pub HasHeard : List ℕ → List ℕ → Option (List ℕ) → Option (List ℕ) → Result (List ℕ) Stop → Wire → Wire → Type 0
HasHeard old new o p (Ok line) w v = IsLine line × (old ++ w.left ≡ line ++ 10 ∷ (new ++ v.left)) × (v.written ≡ w.written) × Appends o p (ended line)
HasHeard old new o p (Err stops.Ended) w v = IsLine (old ++ w.left) × (v.left ≡ []) × HasBegun old o p w v
HasHeard old new o p (Err stops.Link) w v = HasBegun old o p w v
HasHeard old new o p (Err stops.Memory) w v = HasBegun old o p w v
HasHeard old new o p (Err stops.Out) w v = HasBegun old o p w v
HasHeard old new o p (Err stops.Refused) w v = ⊥

-- the counts of a link: one of them rose where a fault of the link stopped the talk
abbrev pub LinkRose : ℕ → ℕ → ℕ → ℕ → Type 0
LinkRose reads reads' writes writes' = (Rose reads reads' × (writes' ≡ writes)) ⊎ ((reads' ≡ reads) × Rose writes writes')

abbrev pub LinkCause : {T : Type 0} → ℕ → ℕ → ℕ → ℕ → Result T Stop → Type 0
LinkCause reads reads' writes writes' (Err stops.Link) = LinkRose reads reads' writes writes'
LinkCause reads reads' writes writes' _ = (reads' ≡ reads) × (writes' ≡ writes)

-- the count of the output rose where a fault of the output stopped the talk
abbrev pub OutCause : {T : Type 0} → ℕ → ℕ → Result T Stop → Type 0
OutCause before now (Err stops.Out) = Rose before now
OutCause before now _ = now ≡ before

-- why a call on the link stops
abbrev pub IsOfLink : Stop → Type 0
IsOfLink stops.Link = ⊤
IsOfLink stops.Ended = ⊤
IsOfLink stops.Memory = ⊤
IsOfLink stops.Out = ⊥
IsOfLink stops.Refused = ⊥
