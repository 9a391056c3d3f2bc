-- Which lines a client may send, and the one spelling of each.
-- Left out: what it is answered. Cited by `decode_line`, `write_message` and their laws.
use Rattle.std.specs.Prelude.{ℕ, List, [], ◌∷◌, ◌++◌, codes}
use Rattle.board_items.specs.Formed.{IsFormed}
use Rattle.session_wire.specs.declared.messages.Message.{Message}
use Rattle.session_wire.specs.declared.messages.Message.TheVariants as messages
use Rattle.session_wire.specs.Requests.{request_text}
use Rattle.session_wire.specs.Readings.{HasReading}

-- a line of a client, without its line feed: the request, or that it ends the session
abbrev pub message_text : Message → List ℕ
message_text (messages.Ask request) = request_text request
message_text messages.Bye = codes "bye"

-- a message as a whole line
abbrev pub message_line : Message → List ℕ
message_line message = message_text message ++ (10 ∷ [])

-- a client asks for a change whose counts and numbers are in range, or ends the session
abbrev pub IsMessage : Message → Type 0
IsMessage (messages.Ask request) = IsFormed request
IsMessage messages.Bye = Unit {0}

-- the line spells a message
abbrev pub HasMessage : List ℕ → Type 0
HasMessage = HasReading IsMessage message_text
