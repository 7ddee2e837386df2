-- The line of each reply, without its line feed.
use Rattle.std.specs.Prelude.{ℕ, List, [], ◌∷◌, ◌++◌, map, codes, Option, None, Some}
use Rattle.std.specs.Fmt.{decimal, signed_decimal}
use Rattle.cg_names.specs.declared.code.Code.{Code}
use Rattle.cg_names.specs.Codes.{name_of, number_of}
use Rattle.cg_fold.specs.declared.stored_offset.StoredOffset.{StoredOffset}
use Rattle.cg_group_state.specs.declared.group.Phase.{Phase}
use Rattle.cg_group_state.specs.declared.group.Phase.TheVariants.{Empty, Preparing, Completing, Stable}
use Rattle.cg_group_state.specs.declared.reply.Joined.{Joined}
use Rattle.cg_group_state.specs.declared.reply.JoinedMember.{JoinedMember}
use Rattle.cg_group_state.specs.declared.reply.FetchedPartition.{FetchedPartition}
use Rattle.cg_group_state.specs.declared.reply.Described.{Described}
use Rattle.cg_group_state.specs.declared.reply.DescribedMember.{DescribedMember}
use Rattle.cg_group_state.specs.declared.reply.Listing.{Listing}
use Rattle.cg_group_state.specs.declared.reply.Reply.{Reply}
use Rattle.cg_group_state.specs.declared.reply.Reply.TheVariants as kinds
use Rattle.cg_line.specs.Words.{bytes_word, name_word, spaced}

-- Kafka's name for the state of a loaded group
abbrev pub state_word : Phase → List ℕ
state_word Empty = codes "Empty"
state_word Preparing = codes "PreparingRebalance"
state_word Completing = codes "CompletingRebalance"
state_word Stable = codes "Stable"

-- id:instance:subscription
unfoldable pub joined_word : JoinedMember → List ℕ
joined_word m = m.id ++ codes ":" ++ name_word m.instance ++ codes ":" ++ bytes_word m.subscription

-- an offset and its metadata; -1 and no bytes without an offset
abbrev pub stored_word : Option StoredOffset → List ℕ
stored_word None = codes "-1:x"
stored_word (Some stored) = decimal stored.offset ++ codes ":" ++ bytes_word stored.metadata

-- topic:partition:offset:metadata
unfoldable pub fetched_word : FetchedPartition → List ℕ
fetched_word p = p.key.topic ++ codes ":" ++ decimal p.key.partition ++ codes ":" ++ stored_word p.stored

-- id:instance:client:subscription:assignment
unfoldable pub described_word : DescribedMember → List ℕ
described_word m = m.id ++ codes ":" ++ name_word m.instance ++ codes ":" ++ m.client ++ codes ":" ++ bytes_word m.subscription ++ codes ":" ++ bytes_word m.assignment

-- group:type:state
unfoldable pub listing_word : Listing → List ℕ
listing_word l = l.id ++ codes ":" ++ name_word l.kind ++ codes ":" ++ state_word l.phase

-- JOINED generation type protocol leader member, and a word for each member that is listed
unfoldable pub joined_line : Joined → List ℕ
joined_line j = spaced (codes "JOINED" ∷ decimal j.generation ∷ name_word j.kind ∷ name_word j.protocol ∷ name_word j.leader ∷ j.member ∷ map joined_word j.members)

-- GROUP state generation type protocol, and a word for each member
unfoldable pub held_line : Described → List ℕ
held_line d = spaced (codes "GROUP" ∷ state_word d.phase ∷ decimal d.generation ∷ name_word d.kind ∷ name_word d.protocol ∷ map described_word d.members)

-- a group that is not loaded is Dead
abbrev pub described_line : Option Described → List ℕ
described_line None = codes "GROUP Dead 0 - -"
described_line (Some d) = held_line d

-- ERR, and the number and the name of the code
unfoldable pub refused_line : Code → List ℕ
refused_line code = spaced (codes "ERR" ∷ signed_decimal (number_of code) ∷ name_of code ∷ [])

-- the line of a reply
unfoldable pub reply_line : Reply → List ℕ
reply_line (kinds.Joined j) = joined_line j
reply_line (kinds.Synced assignment) = spaced (codes "SYNCED" ∷ bytes_word assignment ∷ [])
reply_line kinds.Done = codes "OK"
reply_line (kinds.Fetched partitions) = spaced (codes "FETCHED" ∷ map fetched_word partitions)
reply_line (kinds.Described d) = described_line d
reply_line (kinds.Groups groups) = spaced (codes "GROUPS" ∷ map listing_word groups)
reply_line (kinds.Refused code) = refused_line code
