-- The commands that a unit of the wide profile supports, as REPORT SUPPORTED OPERATION CODES tells them, SPC-4 §6.35.
use Rattle.std.specs.Prelude.{ℕ, ◌+◌, ◌*◌, ◌/◌, ◌==◌, Bool, ◌&&◌, ◌||◌, List, [], ◌∷◌, ◌++◌, length, map, replicate, take, sum_by, Option, None, Some, Ok, Err, find, option_map, is_some, if◌then◌else◌}
use Rattle.std.specs.List.{list_any, flat_map}
use Rattle.std.specs.Int.{w32, to_be_bytes}
use Rattle.sense.specs.Conditions.{invalid_field_in_cdb}
use Rattle.cdb.specs.Opcodes.{control_of, length_of_group}
use Rattle.cdb.specs.Usage.{Field, mask_of, plain_commands, action_commands}
use Rattle.cdb.specs.declared.wide_commands.CodesAsked.{CodesAsked}
use Rattle.cdb.specs.declared.wide_commands.CodesAsked.TheVariants.{AllCommands, OneCommand, OneServiceAction, OneOfEither}
use Rattle.command_model.specs.Data.{Answer}

abbrev pub cdb_length : ℕ → ℕ
cdb_length opcode = length_of_group (opcode / 32)

-- the bits of byte k that a unit evaluates
abbrev pub usage_byte : ℕ → List Field → ℕ → ℕ
usage_byte opcode fields k = sum_by (λ field. mask_of field k) (Field.Bits (control_of opcode) 2 2 ∷ fields)

-- the CDB usage data, of 16 bytes: byte 0 is the opcode, and the service action stands in its place
abbrev pub usage_data : ℕ → ℕ → List Field → List ℕ
usage_data opcode action fields =
    opcode ∷ (action + usage_byte opcode fields 1)
    ∷ map (usage_byte opcode fields) (2 ∷ 3 ∷ 4 ∷ 5 ∷ 6 ∷ 7 ∷ 8 ∷ 9 ∷ 10 ∷ 11 ∷ 12 ∷ 13 ∷ 14 ∷ 15 ∷ [])

-- that of an opcode without service actions, if a unit has it
unfoldable pub plain_usage : ℕ → Option (List ℕ)
plain_usage opcode = option_map (λ c. usage_data c.0 0 (c.1 ++ c.2)) (find (λ c. c.0 == opcode) plain_commands)

-- that of an opcode and a service action
unfoldable pub action_usage : ℕ → ℕ → Option (List ℕ)
action_usage opcode action =
    option_map (λ c. usage_data c.0 c.1 (c.2 ++ c.3)) (find (λ c. (c.0 == opcode) && (c.1 == action)) action_commands)

-- whether an opcode has service actions
abbrev pub has_actions : ℕ → Bool
has_actions opcode = list_any (λ known. known == opcode) (0x9e ∷ 0xa3 ∷ [])

-- a command timeouts descriptor, SPC-4 §6.35.4: 10 bytes follow; no timeout is indicated
abbrev pub no_timeouts : List ℕ
no_timeouts = (0x00 ∷ 0x0a ∷ []) ++ replicate 10 0x00

-- with RCTD, and without it
abbrev pub timeouts_told : Bool → List ℕ
timeouts_told timeouts = if timeouts then no_timeouts else []

-- one command, SPC-4 §6.35.3: SUPPORT 001b where the unit lacks it; else 011b, the CDB's length and the usage data. With
-- RCTD also CTDP (bit 7), and the descriptor behind; a command that the unit lacks has none.
abbrev pub one_command : ℕ → Bool → Option (List ℕ) → List ℕ
one_command opcode timeouts None = 0x00 ∷ 0x01 ∷ 0x00 ∷ 0x00 ∷ []
one_command opcode timeouts (Some usage) =
    (0x00 ∷ (if timeouts then 0x83 else 0x03) ∷ 0x00 ∷ cdb_length opcode ∷ []) ++ take (cdb_length opcode) usage
    ++ timeouts_told timeouts

-- all commands, SPC-4 §6.35.2: how many bytes follow; a descriptor of 8 bytes for each, with SERVACTV (bit 0) where it has
-- a service action, and the CDB's length. With RCTD also CTDP (bit 1), and the descriptor behind each.
abbrev pub plain_descriptor : Bool → ℕ × List Field × List Field → List ℕ
plain_descriptor timeouts c =
    (c.0 ∷ 0x00 ∷ 0x00 ∷ 0x00 ∷ 0x00 ∷ (if timeouts then 0x02 else 0x00) ∷ 0x00 ∷ cdb_length c.0 ∷ [])
    ++ timeouts_told timeouts

abbrev pub action_descriptor : Bool → ℕ × ℕ × List Field × List Field → List ℕ
action_descriptor timeouts c =
    (c.0 ∷ 0x00 ∷ 0x00 ∷ c.1 ∷ 0x00 ∷ (if timeouts then 0x03 else 0x01) ∷ 0x00 ∷ cdb_length c.0 ∷ [])
    ++ timeouts_told timeouts

unfoldable pub all_commands : Bool → List ℕ
all_commands timeouts =
    to_be_bytes w32 ((8 + length (timeouts_told timeouts)) * (length plain_commands + length action_commands))
    ++ flat_map (plain_descriptor timeouts) plain_commands ++ flat_map (action_descriptor timeouts) action_commands

-- that of an opcode and a service action, where one without service actions has the action 0: option 011b
abbrev pub either_usage : ℕ → ℕ → Option (List ℕ)
either_usage opcode action =
    if has_actions opcode then action_usage opcode action
    else (if action == 0 then plain_usage opcode else None)

-- REPORT SUPPORTED OPERATION CODES; with options 001b and 010b an opcode that has service actions is asked for with one,
-- any other without
abbrev pub codes_answer : CodesAsked → Bool → ℕ → Answer
codes_answer AllCommands timeouts allocation = Ok (take allocation (all_commands timeouts))
codes_answer (OneCommand opcode) timeouts allocation =
    if has_actions opcode then Err invalid_field_in_cdb
    else Ok (take allocation (one_command opcode timeouts (plain_usage opcode)))
codes_answer (OneServiceAction opcode action) timeouts allocation =
    if is_some (plain_usage opcode) then Err invalid_field_in_cdb
    else Ok (take allocation (one_command opcode timeouts (action_usage opcode action)))
codes_answer (OneOfEither opcode action) timeouts allocation =
    Ok (take allocation (one_command opcode timeouts (either_usage opcode action)))

-- whether a unit has a command of this opcode, as it tells
abbrev pub is_told : ℕ → Bool
is_told opcode = is_some (plain_usage opcode) || has_actions opcode
