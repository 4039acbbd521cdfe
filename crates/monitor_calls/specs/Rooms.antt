-- When memory that was taken before is enough for the copy of a reply.
use Rattle.std.specs.Prelude.{◌≡◌, ℕ, Bool, true, false, List, Option, Some, None}
use Rattle.monitor_calls.specs.declared.calls.Reply.{Reply}
use Rattle.monitor_calls.specs.declared.calls.Reply.TheVariants.{Done, Opened, Block, Record, Name, Message, State, Failed, Expired}
use Rattle.monitor_calls.specs.declared.rooms.ReplyRoom.{ReplyRoom}
use Rattle.monitor_calls.specs.declared.rooms.ReplyRoom.TheVariants.{Small, Page, Pages, Text}

abbrev pub has_page : ReplyRoom → Bool
has_page Small = false
has_page (Page page) = true
has_page (Pages pages) = false
has_page (Text text) = false

abbrev pub text_in : ReplyRoom → Option (List ℕ)
text_in Small = None
text_in (Page page) = None
text_in (Pages pages) = None
text_in (Text text) = Some text

abbrev pub pages_in : ReplyRoom → Option (List (List ℕ))
pages_in Small = None
pages_in (Page page) = None
pages_in (Pages pages) = Some pages
pages_in (Text text) = None

-- a page for a block, the very pages of a record, the very string of a message, and nothing for the
-- other replies
abbrev pub HasRoom : Reply → ReplyRoom → Type 0
HasRoom (Block page) room = has_page room ≡ true
HasRoom (Record pages) room = pages_in room ≡ Some pages
HasRoom (Message job account text) room = text_in room ≡ Some text
HasRoom Done room = Unit {0}
HasRoom (Opened blocks read write) room = Unit {0}
HasRoom (Name name code blocks) room = Unit {0}
HasRoom (State job account calls) room = Unit {0}
HasRoom (Failed number) room = Unit {0}
HasRoom Expired room = Unit {0}
