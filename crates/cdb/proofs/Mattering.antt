-- Pairs of CDBs that differ in one field, and in what they mean.
use Rattle.std.proofs.Common.{◌≢◌, ◌==◌, Bool, true, false, not, ◌&&◌, [], ◌∷◌, refl, ap}
use Rattle.cdb.specs.Fields.{byte, bits}
use Rattle.cdb.specs.Decoding.{command}
use Rattle.cdb.specs.Usage.{Field, Matters, PlainMatters, ActionMatters, OfEach, plain_commands, action_commands}
use Rattle.cdb.specs.declared.commands.Command.{Command}
use Rattle.cdb.specs.declared.commands.Command.TheVariants as all
use Rattle.cdb.specs.declared.wide_commands.WideCommand.TheVariants.{ModeSense, ReadDefectData}
use Rattle.cdb.specs.declared.wide_commands.ModeRequest.{ModeRequest}
use Rattle.cdb.specs.declared.wide_commands.ModeDescriptor.{ModeDescriptor}
use Rattle.cdb.specs.declared.wide_commands.ModeDescriptor.TheVariants.{Short}
use Rattle.cdb.specs.declared.wide_commands.ModePages.{ModePages}
use Rattle.cdb.specs.declared.wide_commands.ModePages.TheVariants.{All}
use Rattle.cdb.specs.declared.wide_commands.ModeValues.{ModeValues}
use Rattle.cdb.specs.declared.wide_commands.ModeValues.TheVariants.{Current}
use Rattle.cdb.specs.declared.wide_commands.DefectRequest.{DefectRequest}
use Rattle.cdb.specs.declared.wide_commands.DefectFormat.{DefectFormat}
use Rattle.cdb.specs.declared.wide_commands.DefectFormat.TheVariants.{ShortBlock}

apart : true ≢ false
apart e = cc

-- a MODE SENSE that has this, a READ DEFECT DATA that has this
abbrev senses : (ModeRequest → Bool) → Command → Bool
senses has (all.Wide (ModeSense request)) = has request
senses has _ = false

abbrev lists : (DefectRequest → Bool) → Command → Bool
lists has (all.Wide (ReadDefectData request)) = has request
lists has _ = false

abbrev is_short : ModeDescriptor → Bool
is_short Short = true
is_short _ = false

abbrev are_all : ModePages → Bool
are_all All = true
are_all _ = false

abbrev is_current : ModeValues → Bool
is_current Current = true
is_current _ = false

abbrev are_short_blocks : DefectFormat → Bool
are_short_blocks ShortBlock = true
are_short_blocks _ = false

matters_03_0 : Matters (λ cdb. byte 0 cdb == 0x03) (Field.Bits 1 0 0)
unfolding command
matters_03_0 =
    record {
      a = 0x03 ∷ 0 ∷ 0 ∷ 0 ∷ 0 ∷ 0 ∷ 0 ∷ 0 ∷ 0 ∷ 0 ∷ 0 ∷ 0 ∷ 0 ∷ 0 ∷ 0 ∷ 0 ∷ [];
      b = 0x03 ∷ 0x01 ∷ 0 ∷ 0 ∷ 0 ∷ 0 ∷ 0 ∷ 0 ∷ 0 ∷ 0 ∷ 0 ∷ 0 ∷ 0 ∷ 0 ∷ 0 ∷ 0 ∷ [];
      a_asks = refl;
      b_asks = refl;
      alike = refl;
      differ = λ e. cc;
    }

matters_03_1 : Matters (λ cdb. byte 0 cdb == 0x03) (Field.Whole 4)
unfolding command
matters_03_1 =
    record {
      a = 0x03 ∷ 0 ∷ 0 ∷ 0 ∷ 0 ∷ 0 ∷ 0 ∷ 0 ∷ 0 ∷ 0 ∷ 0 ∷ 0 ∷ 0 ∷ 0 ∷ 0 ∷ 0 ∷ [];
      b = 0x03 ∷ 0 ∷ 0 ∷ 0 ∷ 0x01 ∷ 0 ∷ 0 ∷ 0 ∷ 0 ∷ 0 ∷ 0 ∷ 0 ∷ 0 ∷ 0 ∷ 0 ∷ 0 ∷ [];
      a_asks = refl;
      b_asks = refl;
      alike = refl;
      differ = λ e. cc;
    }

matters_04_0 : Matters (λ cdb. byte 0 cdb == 0x04) (Field.Bits 1 7 6)
unfolding command
matters_04_0 =
    record {
      a = 0x04 ∷ 0x10 ∷ 0 ∷ 0 ∷ 0 ∷ 0 ∷ 0 ∷ 0 ∷ 0 ∷ 0 ∷ 0 ∷ 0 ∷ 0 ∷ 0 ∷ 0 ∷ 0 ∷ [];
      b = 0x04 ∷ 0x50 ∷ 0 ∷ 0 ∷ 0 ∷ 0 ∷ 0 ∷ 0 ∷ 0 ∷ 0 ∷ 0 ∷ 0 ∷ 0 ∷ 0 ∷ 0 ∷ 0 ∷ [];
      a_asks = refl;
      b_asks = refl;
      alike = refl;
      differ = λ e. cc;
    }

matters_04_1 : Matters (λ cdb. byte 0 cdb == 0x04) (Field.Bits 1 5 5)
unfolding command
matters_04_1 =
    record {
      a = 0x04 ∷ 0x10 ∷ 0 ∷ 0 ∷ 0 ∷ 0 ∷ 0 ∷ 0 ∷ 0 ∷ 0 ∷ 0 ∷ 0 ∷ 0 ∷ 0 ∷ 0 ∷ 0 ∷ [];
      b = 0x04 ∷ 0x30 ∷ 0 ∷ 0 ∷ 0 ∷ 0 ∷ 0 ∷ 0 ∷ 0 ∷ 0 ∷ 0 ∷ 0 ∷ 0 ∷ 0 ∷ 0 ∷ 0 ∷ [];
      a_asks = refl;
      b_asks = refl;
      alike = refl;
      differ = λ e. cc;
    }

matters_04_2 : Matters (λ cdb. byte 0 cdb == 0x04) (Field.Bits 1 4 4)
unfolding command
matters_04_2 =
    record {
      a = 0x04 ∷ 0x10 ∷ 0 ∷ 0 ∷ 0 ∷ 0 ∷ 0 ∷ 0 ∷ 0 ∷ 0 ∷ 0 ∷ 0 ∷ 0 ∷ 0 ∷ 0 ∷ 0 ∷ [];
      b = 0x04 ∷ 0 ∷ 0 ∷ 0 ∷ 0 ∷ 0 ∷ 0 ∷ 0 ∷ 0 ∷ 0 ∷ 0 ∷ 0 ∷ 0 ∷ 0 ∷ 0 ∷ 0 ∷ [];
      a_asks = refl;
      b_asks = refl;
      alike = refl;
      differ = λ e. cc;
    }

matters_04_3 : Matters (λ cdb. byte 0 cdb == 0x04) (Field.Bits 1 2 0)
unfolding command
matters_04_3 =
    record {
      a = 0x04 ∷ 0x10 ∷ 0 ∷ 0 ∷ 0 ∷ 0 ∷ 0 ∷ 0 ∷ 0 ∷ 0 ∷ 0 ∷ 0 ∷ 0 ∷ 0 ∷ 0 ∷ 0 ∷ [];
      b = 0x04 ∷ 0x11 ∷ 0 ∷ 0 ∷ 0 ∷ 0 ∷ 0 ∷ 0 ∷ 0 ∷ 0 ∷ 0 ∷ 0 ∷ 0 ∷ 0 ∷ 0 ∷ 0 ∷ [];
      a_asks = refl;
      b_asks = refl;
      alike = refl;
      differ = λ e. cc;
    }

matters_08_0 : Matters (λ cdb. byte 0 cdb == 0x08) (Field.Bits 1 4 0)
unfolding command
matters_08_0 =
    record {
      a = 0x08 ∷ 0 ∷ 0 ∷ 0 ∷ 0 ∷ 0 ∷ 0 ∷ 0 ∷ 0 ∷ 0 ∷ 0 ∷ 0 ∷ 0 ∷ 0 ∷ 0 ∷ 0 ∷ [];
      b = 0x08 ∷ 0x01 ∷ 0 ∷ 0 ∷ 0 ∷ 0 ∷ 0 ∷ 0 ∷ 0 ∷ 0 ∷ 0 ∷ 0 ∷ 0 ∷ 0 ∷ 0 ∷ 0 ∷ [];
      a_asks = refl;
      b_asks = refl;
      alike = refl;
      differ = λ e. cc;
    }

matters_08_1 : Matters (λ cdb. byte 0 cdb == 0x08) (Field.Number 2 3)
unfolding command
matters_08_1 =
    record {
      a = 0x08 ∷ 0 ∷ 0 ∷ 0 ∷ 0 ∷ 0 ∷ 0 ∷ 0 ∷ 0 ∷ 0 ∷ 0 ∷ 0 ∷ 0 ∷ 0 ∷ 0 ∷ 0 ∷ [];
      b = 0x08 ∷ 0 ∷ 0 ∷ 0x01 ∷ 0 ∷ 0 ∷ 0 ∷ 0 ∷ 0 ∷ 0 ∷ 0 ∷ 0 ∷ 0 ∷ 0 ∷ 0 ∷ 0 ∷ [];
      a_asks = refl;
      b_asks = refl;
      alike = refl;
      differ = λ e. cc;
    }

matters_08_2 : Matters (λ cdb. byte 0 cdb == 0x08) (Field.Whole 4)
unfolding command
matters_08_2 =
    record {
      a = 0x08 ∷ 0 ∷ 0 ∷ 0 ∷ 0 ∷ 0 ∷ 0 ∷ 0 ∷ 0 ∷ 0 ∷ 0 ∷ 0 ∷ 0 ∷ 0 ∷ 0 ∷ 0 ∷ [];
      b = 0x08 ∷ 0 ∷ 0 ∷ 0 ∷ 0x01 ∷ 0 ∷ 0 ∷ 0 ∷ 0 ∷ 0 ∷ 0 ∷ 0 ∷ 0 ∷ 0 ∷ 0 ∷ 0 ∷ [];
      a_asks = refl;
      b_asks = refl;
      alike = refl;
      differ = λ e. cc;
    }

matters_0a_0 : Matters (λ cdb. byte 0 cdb == 0x0a) (Field.Bits 1 4 0)
unfolding command
matters_0a_0 =
    record {
      a = 0x0a ∷ 0 ∷ 0 ∷ 0 ∷ 0 ∷ 0 ∷ 0 ∷ 0 ∷ 0 ∷ 0 ∷ 0 ∷ 0 ∷ 0 ∷ 0 ∷ 0 ∷ 0 ∷ [];
      b = 0x0a ∷ 0x01 ∷ 0 ∷ 0 ∷ 0 ∷ 0 ∷ 0 ∷ 0 ∷ 0 ∷ 0 ∷ 0 ∷ 0 ∷ 0 ∷ 0 ∷ 0 ∷ 0 ∷ [];
      a_asks = refl;
      b_asks = refl;
      alike = refl;
      differ = λ e. cc;
    }

matters_0a_1 : Matters (λ cdb. byte 0 cdb == 0x0a) (Field.Number 2 3)
unfolding command
matters_0a_1 =
    record {
      a = 0x0a ∷ 0 ∷ 0 ∷ 0 ∷ 0 ∷ 0 ∷ 0 ∷ 0 ∷ 0 ∷ 0 ∷ 0 ∷ 0 ∷ 0 ∷ 0 ∷ 0 ∷ 0 ∷ [];
      b = 0x0a ∷ 0 ∷ 0 ∷ 0x01 ∷ 0 ∷ 0 ∷ 0 ∷ 0 ∷ 0 ∷ 0 ∷ 0 ∷ 0 ∷ 0 ∷ 0 ∷ 0 ∷ 0 ∷ [];
      a_asks = refl;
      b_asks = refl;
      alike = refl;
      differ = λ e. cc;
    }

matters_0a_2 : Matters (λ cdb. byte 0 cdb == 0x0a) (Field.Whole 4)
unfolding command
matters_0a_2 =
    record {
      a = 0x0a ∷ 0 ∷ 0 ∷ 0 ∷ 0 ∷ 0 ∷ 0 ∷ 0 ∷ 0 ∷ 0 ∷ 0 ∷ 0 ∷ 0 ∷ 0 ∷ 0 ∷ 0 ∷ [];
      b = 0x0a ∷ 0 ∷ 0 ∷ 0 ∷ 0x01 ∷ 0 ∷ 0 ∷ 0 ∷ 0 ∷ 0 ∷ 0 ∷ 0 ∷ 0 ∷ 0 ∷ 0 ∷ 0 ∷ [];
      a_asks = refl;
      b_asks = refl;
      alike = refl;
      differ = λ e. cc;
    }

matters_12_0 : Matters (λ cdb. byte 0 cdb == 0x12) (Field.Bits 1 0 0)
unfolding command
matters_12_0 =
    record {
      a = 0x12 ∷ 0x01 ∷ 0 ∷ 0 ∷ 0 ∷ 0 ∷ 0 ∷ 0 ∷ 0 ∷ 0 ∷ 0 ∷ 0 ∷ 0 ∷ 0 ∷ 0 ∷ 0 ∷ [];
      b = 0x12 ∷ 0 ∷ 0 ∷ 0 ∷ 0 ∷ 0 ∷ 0 ∷ 0 ∷ 0 ∷ 0 ∷ 0 ∷ 0 ∷ 0 ∷ 0 ∷ 0 ∷ 0 ∷ [];
      a_asks = refl;
      b_asks = refl;
      alike = refl;
      differ = λ e. cc;
    }

matters_12_1 : Matters (λ cdb. byte 0 cdb == 0x12) (Field.Whole 2)
unfolding command
matters_12_1 =
    record {
      a = 0x12 ∷ 0x01 ∷ 0 ∷ 0 ∷ 0 ∷ 0 ∷ 0 ∷ 0 ∷ 0 ∷ 0 ∷ 0 ∷ 0 ∷ 0 ∷ 0 ∷ 0 ∷ 0 ∷ [];
      b = 0x12 ∷ 0x01 ∷ 0x80 ∷ 0 ∷ 0 ∷ 0 ∷ 0 ∷ 0 ∷ 0 ∷ 0 ∷ 0 ∷ 0 ∷ 0 ∷ 0 ∷ 0 ∷ 0 ∷ [];
      a_asks = refl;
      b_asks = refl;
      alike = refl;
      differ = λ e. cc;
    }

matters_12_2 : Matters (λ cdb. byte 0 cdb == 0x12) (Field.Number 3 4)
unfolding command
matters_12_2 =
    record {
      a = 0x12 ∷ 0x01 ∷ 0 ∷ 0 ∷ 0 ∷ 0 ∷ 0 ∷ 0 ∷ 0 ∷ 0 ∷ 0 ∷ 0 ∷ 0 ∷ 0 ∷ 0 ∷ 0 ∷ [];
      b = 0x12 ∷ 0x01 ∷ 0 ∷ 0 ∷ 0x01 ∷ 0 ∷ 0 ∷ 0 ∷ 0 ∷ 0 ∷ 0 ∷ 0 ∷ 0 ∷ 0 ∷ 0 ∷ 0 ∷ [];
      a_asks = refl;
      b_asks = refl;
      alike = refl;
      differ = λ e. cc;
    }

matters_15_0 : Matters (λ cdb. byte 0 cdb == 0x15) (Field.Bits 1 4 4)
unfolding command
matters_15_0 =
    record {
      a = 0x15 ∷ 0x10 ∷ 0 ∷ 0 ∷ 0 ∷ 0 ∷ 0 ∷ 0 ∷ 0 ∷ 0 ∷ 0 ∷ 0 ∷ 0 ∷ 0 ∷ 0 ∷ 0 ∷ [];
      b = 0x15 ∷ 0 ∷ 0 ∷ 0 ∷ 0 ∷ 0 ∷ 0 ∷ 0 ∷ 0 ∷ 0 ∷ 0 ∷ 0 ∷ 0 ∷ 0 ∷ 0 ∷ 0 ∷ [];
      a_asks = refl;
      b_asks = refl;
      alike = refl;
      differ = λ e. cc;
    }

matters_15_1 : Matters (λ cdb. byte 0 cdb == 0x15) (Field.Bits 1 0 0)
unfolding command
matters_15_1 =
    record {
      a = 0x15 ∷ 0x10 ∷ 0 ∷ 0 ∷ 0 ∷ 0 ∷ 0 ∷ 0 ∷ 0 ∷ 0 ∷ 0 ∷ 0 ∷ 0 ∷ 0 ∷ 0 ∷ 0 ∷ [];
      b = 0x15 ∷ 0x11 ∷ 0 ∷ 0 ∷ 0 ∷ 0 ∷ 0 ∷ 0 ∷ 0 ∷ 0 ∷ 0 ∷ 0 ∷ 0 ∷ 0 ∷ 0 ∷ 0 ∷ [];
      a_asks = refl;
      b_asks = refl;
      alike = refl;
      differ = λ e. cc;
    }

matters_15_2 : Matters (λ cdb. byte 0 cdb == 0x15) (Field.Whole 4)
unfolding command
matters_15_2 =
    record {
      a = 0x15 ∷ 0x10 ∷ 0 ∷ 0 ∷ 0 ∷ 0 ∷ 0 ∷ 0 ∷ 0 ∷ 0 ∷ 0 ∷ 0 ∷ 0 ∷ 0 ∷ 0 ∷ 0 ∷ [];
      b = 0x15 ∷ 0x10 ∷ 0 ∷ 0 ∷ 0x01 ∷ 0 ∷ 0 ∷ 0 ∷ 0 ∷ 0 ∷ 0 ∷ 0 ∷ 0 ∷ 0 ∷ 0 ∷ 0 ∷ [];
      a_asks = refl;
      b_asks = refl;
      alike = refl;
      differ = λ e. cc;
    }

matters_1a_0 : Matters (λ cdb. byte 0 cdb == 0x1a) (Field.Bits 1 3 3)
unfolding command
matters_1a_0 =
    record {
      a = 0x1a ∷ 0 ∷ 0x3f ∷ 0 ∷ 0 ∷ 0 ∷ 0 ∷ 0 ∷ 0 ∷ 0 ∷ 0 ∷ 0 ∷ 0 ∷ 0 ∷ 0 ∷ 0 ∷ [];
      b = 0x1a ∷ 0x08 ∷ 0x3f ∷ 0 ∷ 0 ∷ 0 ∷ 0 ∷ 0 ∷ 0 ∷ 0 ∷ 0 ∷ 0 ∷ 0 ∷ 0 ∷ 0 ∷ 0 ∷ [];
      a_asks = refl;
      b_asks = refl;
      alike = refl;
      differ = λ e. apart (ap (senses (λ r. is_short r.descriptor)) e);
    }

matters_1a_1 : Matters (λ cdb. byte 0 cdb == 0x1a) (Field.Bits 2 7 6)
unfolding command
matters_1a_1 =
    record {
      a = 0x1a ∷ 0 ∷ 0x3f ∷ 0 ∷ 0 ∷ 0 ∷ 0 ∷ 0 ∷ 0 ∷ 0 ∷ 0 ∷ 0 ∷ 0 ∷ 0 ∷ 0 ∷ 0 ∷ [];
      b = 0x1a ∷ 0 ∷ 0x7f ∷ 0 ∷ 0 ∷ 0 ∷ 0 ∷ 0 ∷ 0 ∷ 0 ∷ 0 ∷ 0 ∷ 0 ∷ 0 ∷ 0 ∷ 0 ∷ [];
      a_asks = refl;
      b_asks = refl;
      alike = refl;
      differ = λ e. apart (ap (senses (λ r. is_current r.values)) e);
    }

matters_1a_2 : Matters (λ cdb. byte 0 cdb == 0x1a) (Field.Bits 2 5 0)
unfolding command
matters_1a_2 =
    record {
      a = 0x1a ∷ 0 ∷ 0x3f ∷ 0 ∷ 0 ∷ 0 ∷ 0 ∷ 0 ∷ 0 ∷ 0 ∷ 0 ∷ 0 ∷ 0 ∷ 0 ∷ 0 ∷ 0 ∷ [];
      b = 0x1a ∷ 0 ∷ 0x08 ∷ 0 ∷ 0 ∷ 0 ∷ 0 ∷ 0 ∷ 0 ∷ 0 ∷ 0 ∷ 0 ∷ 0 ∷ 0 ∷ 0 ∷ 0 ∷ [];
      a_asks = refl;
      b_asks = refl;
      alike = refl;
      differ = λ e. apart (ap (senses (λ r. are_all r.pages)) e);
    }

matters_1a_3 : Matters (λ cdb. byte 0 cdb == 0x1a) (Field.Whole 3)
unfolding command
matters_1a_3 =
    record {
      a = 0x1a ∷ 0 ∷ 0x3f ∷ 0 ∷ 0 ∷ 0 ∷ 0 ∷ 0 ∷ 0 ∷ 0 ∷ 0 ∷ 0 ∷ 0 ∷ 0 ∷ 0 ∷ 0 ∷ [];
      b = 0x1a ∷ 0 ∷ 0x3f ∷ 0x01 ∷ 0 ∷ 0 ∷ 0 ∷ 0 ∷ 0 ∷ 0 ∷ 0 ∷ 0 ∷ 0 ∷ 0 ∷ 0 ∷ 0 ∷ [];
      a_asks = refl;
      b_asks = refl;
      alike = refl;
      differ = λ e. cc;
    }

matters_1a_4 : Matters (λ cdb. byte 0 cdb == 0x1a) (Field.Whole 4)
unfolding command
matters_1a_4 =
    record {
      a = 0x1a ∷ 0 ∷ 0x3f ∷ 0 ∷ 0 ∷ 0 ∷ 0 ∷ 0 ∷ 0 ∷ 0 ∷ 0 ∷ 0 ∷ 0 ∷ 0 ∷ 0 ∷ 0 ∷ [];
      b = 0x1a ∷ 0 ∷ 0x3f ∷ 0 ∷ 0x01 ∷ 0 ∷ 0 ∷ 0 ∷ 0 ∷ 0 ∷ 0 ∷ 0 ∷ 0 ∷ 0 ∷ 0 ∷ 0 ∷ [];
      a_asks = refl;
      b_asks = refl;
      alike = refl;
      differ = λ e. apart (ap (senses (λ r. r.allocation == 0)) e);
    }

matters_1b_0 : Matters (λ cdb. byte 0 cdb == 0x1b) (Field.Bits 4 7 4)
unfolding command
matters_1b_0 =
    record {
      a = 0x1b ∷ 0 ∷ 0 ∷ 0 ∷ 0x01 ∷ 0 ∷ 0 ∷ 0 ∷ 0 ∷ 0 ∷ 0 ∷ 0 ∷ 0 ∷ 0 ∷ 0 ∷ 0 ∷ [];
      b = 0x1b ∷ 0 ∷ 0 ∷ 0 ∷ 0x11 ∷ 0 ∷ 0 ∷ 0 ∷ 0 ∷ 0 ∷ 0 ∷ 0 ∷ 0 ∷ 0 ∷ 0 ∷ 0 ∷ [];
      a_asks = refl;
      b_asks = refl;
      alike = refl;
      differ = λ e. cc;
    }

matters_1b_1 : Matters (λ cdb. byte 0 cdb == 0x1b) (Field.Bits 4 1 1)
unfolding command
matters_1b_1 =
    record {
      a = 0x1b ∷ 0 ∷ 0 ∷ 0 ∷ 0x01 ∷ 0 ∷ 0 ∷ 0 ∷ 0 ∷ 0 ∷ 0 ∷ 0 ∷ 0 ∷ 0 ∷ 0 ∷ 0 ∷ [];
      b = 0x1b ∷ 0 ∷ 0 ∷ 0 ∷ 0x03 ∷ 0 ∷ 0 ∷ 0 ∷ 0 ∷ 0 ∷ 0 ∷ 0 ∷ 0 ∷ 0 ∷ 0 ∷ 0 ∷ [];
      a_asks = refl;
      b_asks = refl;
      alike = refl;
      differ = λ e. cc;
    }

matters_1b_2 : Matters (λ cdb. byte 0 cdb == 0x1b) (Field.Bits 4 0 0)
unfolding command
matters_1b_2 =
    record {
      a = 0x1b ∷ 0 ∷ 0 ∷ 0 ∷ 0x01 ∷ 0 ∷ 0 ∷ 0 ∷ 0 ∷ 0 ∷ 0 ∷ 0 ∷ 0 ∷ 0 ∷ 0 ∷ 0 ∷ [];
      b = 0x1b ∷ 0 ∷ 0 ∷ 0 ∷ 0 ∷ 0 ∷ 0 ∷ 0 ∷ 0 ∷ 0 ∷ 0 ∷ 0 ∷ 0 ∷ 0 ∷ 0 ∷ 0 ∷ [];
      a_asks = refl;
      b_asks = refl;
      alike = refl;
      differ = λ e. cc;
    }

matters_1d_0 : Matters (λ cdb. byte 0 cdb == 0x1d) (Field.Bits 1 7 5)
unfolding command
matters_1d_0 =
    record {
      a = 0x1d ∷ 0 ∷ 0 ∷ 0 ∷ 0 ∷ 0 ∷ 0 ∷ 0 ∷ 0 ∷ 0 ∷ 0 ∷ 0 ∷ 0 ∷ 0 ∷ 0 ∷ 0 ∷ [];
      b = 0x1d ∷ 0x20 ∷ 0 ∷ 0 ∷ 0 ∷ 0 ∷ 0 ∷ 0 ∷ 0 ∷ 0 ∷ 0 ∷ 0 ∷ 0 ∷ 0 ∷ 0 ∷ 0 ∷ [];
      a_asks = refl;
      b_asks = refl;
      alike = refl;
      differ = λ e. cc;
    }

matters_1d_1 : Matters (λ cdb. byte 0 cdb == 0x1d) (Field.Number 3 4)
unfolding command
matters_1d_1 =
    record {
      a = 0x1d ∷ 0 ∷ 0 ∷ 0 ∷ 0 ∷ 0 ∷ 0 ∷ 0 ∷ 0 ∷ 0 ∷ 0 ∷ 0 ∷ 0 ∷ 0 ∷ 0 ∷ 0 ∷ [];
      b = 0x1d ∷ 0 ∷ 0 ∷ 0 ∷ 0x01 ∷ 0 ∷ 0 ∷ 0 ∷ 0 ∷ 0 ∷ 0 ∷ 0 ∷ 0 ∷ 0 ∷ 0 ∷ 0 ∷ [];
      a_asks = refl;
      b_asks = refl;
      alike = refl;
      differ = λ e. cc;
    }

matters_1e_0 : Matters (λ cdb. byte 0 cdb == 0x1e) (Field.Bits 4 1 0)
unfolding command
matters_1e_0 =
    record {
      a = 0x1e ∷ 0 ∷ 0 ∷ 0 ∷ 0 ∷ 0 ∷ 0 ∷ 0 ∷ 0 ∷ 0 ∷ 0 ∷ 0 ∷ 0 ∷ 0 ∷ 0 ∷ 0 ∷ [];
      b = 0x1e ∷ 0 ∷ 0 ∷ 0 ∷ 0x02 ∷ 0 ∷ 0 ∷ 0 ∷ 0 ∷ 0 ∷ 0 ∷ 0 ∷ 0 ∷ 0 ∷ 0 ∷ 0 ∷ [];
      a_asks = refl;
      b_asks = refl;
      alike = refl;
      differ = λ e. cc;
    }

matters_28_0 : Matters (λ cdb. byte 0 cdb == 0x28) (Field.Bits 1 7 5)
unfolding command
matters_28_0 =
    record {
      a = 0x28 ∷ 0 ∷ 0 ∷ 0 ∷ 0 ∷ 0 ∷ 0 ∷ 0 ∷ 0 ∷ 0 ∷ 0 ∷ 0 ∷ 0 ∷ 0 ∷ 0 ∷ 0 ∷ [];
      b = 0x28 ∷ 0x20 ∷ 0 ∷ 0 ∷ 0 ∷ 0 ∷ 0 ∷ 0 ∷ 0 ∷ 0 ∷ 0 ∷ 0 ∷ 0 ∷ 0 ∷ 0 ∷ 0 ∷ [];
      a_asks = refl;
      b_asks = refl;
      alike = refl;
      differ = λ e. cc;
    }

matters_28_1 : Matters (λ cdb. byte 0 cdb == 0x28) (Field.Number 2 5)
unfolding command
matters_28_1 =
    record {
      a = 0x28 ∷ 0 ∷ 0 ∷ 0 ∷ 0 ∷ 0 ∷ 0 ∷ 0 ∷ 0 ∷ 0 ∷ 0 ∷ 0 ∷ 0 ∷ 0 ∷ 0 ∷ 0 ∷ [];
      b = 0x28 ∷ 0 ∷ 0 ∷ 0 ∷ 0 ∷ 0x01 ∷ 0 ∷ 0 ∷ 0 ∷ 0 ∷ 0 ∷ 0 ∷ 0 ∷ 0 ∷ 0 ∷ 0 ∷ [];
      a_asks = refl;
      b_asks = refl;
      alike = refl;
      differ = λ e. cc;
    }

matters_28_2 : Matters (λ cdb. byte 0 cdb == 0x28) (Field.Number 7 8)
unfolding command
matters_28_2 =
    record {
      a = 0x28 ∷ 0 ∷ 0 ∷ 0 ∷ 0 ∷ 0 ∷ 0 ∷ 0 ∷ 0 ∷ 0 ∷ 0 ∷ 0 ∷ 0 ∷ 0 ∷ 0 ∷ 0 ∷ [];
      b = 0x28 ∷ 0 ∷ 0 ∷ 0 ∷ 0 ∷ 0 ∷ 0 ∷ 0 ∷ 0x01 ∷ 0 ∷ 0 ∷ 0 ∷ 0 ∷ 0 ∷ 0 ∷ 0 ∷ [];
      a_asks = refl;
      b_asks = refl;
      alike = refl;
      differ = λ e. cc;
    }

matters_2a_0 : Matters (λ cdb. byte 0 cdb == 0x2a) (Field.Bits 1 7 5)
unfolding command
matters_2a_0 =
    record {
      a = 0x2a ∷ 0 ∷ 0 ∷ 0 ∷ 0 ∷ 0 ∷ 0 ∷ 0 ∷ 0 ∷ 0 ∷ 0 ∷ 0 ∷ 0 ∷ 0 ∷ 0 ∷ 0 ∷ [];
      b = 0x2a ∷ 0x20 ∷ 0 ∷ 0 ∷ 0 ∷ 0 ∷ 0 ∷ 0 ∷ 0 ∷ 0 ∷ 0 ∷ 0 ∷ 0 ∷ 0 ∷ 0 ∷ 0 ∷ [];
      a_asks = refl;
      b_asks = refl;
      alike = refl;
      differ = λ e. cc;
    }

matters_2a_1 : Matters (λ cdb. byte 0 cdb == 0x2a) (Field.Number 2 5)
unfolding command
matters_2a_1 =
    record {
      a = 0x2a ∷ 0 ∷ 0 ∷ 0 ∷ 0 ∷ 0 ∷ 0 ∷ 0 ∷ 0 ∷ 0 ∷ 0 ∷ 0 ∷ 0 ∷ 0 ∷ 0 ∷ 0 ∷ [];
      b = 0x2a ∷ 0 ∷ 0 ∷ 0 ∷ 0 ∷ 0x01 ∷ 0 ∷ 0 ∷ 0 ∷ 0 ∷ 0 ∷ 0 ∷ 0 ∷ 0 ∷ 0 ∷ 0 ∷ [];
      a_asks = refl;
      b_asks = refl;
      alike = refl;
      differ = λ e. cc;
    }

matters_2a_2 : Matters (λ cdb. byte 0 cdb == 0x2a) (Field.Number 7 8)
unfolding command
matters_2a_2 =
    record {
      a = 0x2a ∷ 0 ∷ 0 ∷ 0 ∷ 0 ∷ 0 ∷ 0 ∷ 0 ∷ 0 ∷ 0 ∷ 0 ∷ 0 ∷ 0 ∷ 0 ∷ 0 ∷ 0 ∷ [];
      b = 0x2a ∷ 0 ∷ 0 ∷ 0 ∷ 0 ∷ 0 ∷ 0 ∷ 0 ∷ 0x01 ∷ 0 ∷ 0 ∷ 0 ∷ 0 ∷ 0 ∷ 0 ∷ 0 ∷ [];
      a_asks = refl;
      b_asks = refl;
      alike = refl;
      differ = λ e. cc;
    }

matters_2e_0 : Matters (λ cdb. byte 0 cdb == 0x2e) (Field.Bits 1 2 1)
unfolding command
matters_2e_0 =
    record {
      a = 0x2e ∷ 0 ∷ 0 ∷ 0 ∷ 0 ∷ 0 ∷ 0 ∷ 0 ∷ 0 ∷ 0 ∷ 0 ∷ 0 ∷ 0 ∷ 0 ∷ 0 ∷ 0 ∷ [];
      b = 0x2e ∷ 0x04 ∷ 0 ∷ 0 ∷ 0 ∷ 0 ∷ 0 ∷ 0 ∷ 0 ∷ 0 ∷ 0 ∷ 0 ∷ 0 ∷ 0 ∷ 0 ∷ 0 ∷ [];
      a_asks = refl;
      b_asks = refl;
      alike = refl;
      differ = λ e. cc;
    }

matters_2e_1 : Matters (λ cdb. byte 0 cdb == 0x2e) (Field.Bits 1 7 5)
unfolding command
matters_2e_1 =
    record {
      a = 0x2e ∷ 0 ∷ 0 ∷ 0 ∷ 0 ∷ 0 ∷ 0 ∷ 0 ∷ 0 ∷ 0 ∷ 0 ∷ 0 ∷ 0 ∷ 0 ∷ 0 ∷ 0 ∷ [];
      b = 0x2e ∷ 0x20 ∷ 0 ∷ 0 ∷ 0 ∷ 0 ∷ 0 ∷ 0 ∷ 0 ∷ 0 ∷ 0 ∷ 0 ∷ 0 ∷ 0 ∷ 0 ∷ 0 ∷ [];
      a_asks = refl;
      b_asks = refl;
      alike = refl;
      differ = λ e. cc;
    }

matters_2e_2 : Matters (λ cdb. byte 0 cdb == 0x2e) (Field.Number 2 5)
unfolding command
matters_2e_2 =
    record {
      a = 0x2e ∷ 0 ∷ 0 ∷ 0 ∷ 0 ∷ 0 ∷ 0 ∷ 0 ∷ 0 ∷ 0 ∷ 0 ∷ 0 ∷ 0 ∷ 0 ∷ 0 ∷ 0 ∷ [];
      b = 0x2e ∷ 0 ∷ 0 ∷ 0 ∷ 0 ∷ 0x01 ∷ 0 ∷ 0 ∷ 0 ∷ 0 ∷ 0 ∷ 0 ∷ 0 ∷ 0 ∷ 0 ∷ 0 ∷ [];
      a_asks = refl;
      b_asks = refl;
      alike = refl;
      differ = λ e. cc;
    }

matters_2e_3 : Matters (λ cdb. byte 0 cdb == 0x2e) (Field.Number 7 8)
unfolding command
matters_2e_3 =
    record {
      a = 0x2e ∷ 0 ∷ 0 ∷ 0 ∷ 0 ∷ 0 ∷ 0 ∷ 0 ∷ 0 ∷ 0 ∷ 0 ∷ 0 ∷ 0 ∷ 0 ∷ 0 ∷ 0 ∷ [];
      b = 0x2e ∷ 0 ∷ 0 ∷ 0 ∷ 0 ∷ 0 ∷ 0 ∷ 0 ∷ 0x01 ∷ 0 ∷ 0 ∷ 0 ∷ 0 ∷ 0 ∷ 0 ∷ 0 ∷ [];
      a_asks = refl;
      b_asks = refl;
      alike = refl;
      differ = λ e. cc;
    }

matters_2f_0 : Matters (λ cdb. byte 0 cdb == 0x2f) (Field.Bits 1 2 1)
unfolding command
matters_2f_0 =
    record {
      a = 0x2f ∷ 0 ∷ 0 ∷ 0 ∷ 0 ∷ 0 ∷ 0 ∷ 0 ∷ 0 ∷ 0 ∷ 0 ∷ 0 ∷ 0 ∷ 0 ∷ 0 ∷ 0 ∷ [];
      b = 0x2f ∷ 0x02 ∷ 0 ∷ 0 ∷ 0 ∷ 0 ∷ 0 ∷ 0 ∷ 0 ∷ 0 ∷ 0 ∷ 0 ∷ 0 ∷ 0 ∷ 0 ∷ 0 ∷ [];
      a_asks = refl;
      b_asks = refl;
      alike = refl;
      differ = λ e. cc;
    }

matters_2f_1 : Matters (λ cdb. byte 0 cdb == 0x2f) (Field.Bits 1 7 5)
unfolding command
matters_2f_1 =
    record {
      a = 0x2f ∷ 0 ∷ 0 ∷ 0 ∷ 0 ∷ 0 ∷ 0 ∷ 0 ∷ 0 ∷ 0 ∷ 0 ∷ 0 ∷ 0 ∷ 0 ∷ 0 ∷ 0 ∷ [];
      b = 0x2f ∷ 0x20 ∷ 0 ∷ 0 ∷ 0 ∷ 0 ∷ 0 ∷ 0 ∷ 0 ∷ 0 ∷ 0 ∷ 0 ∷ 0 ∷ 0 ∷ 0 ∷ 0 ∷ [];
      a_asks = refl;
      b_asks = refl;
      alike = refl;
      differ = λ e. cc;
    }

matters_2f_2 : Matters (λ cdb. byte 0 cdb == 0x2f) (Field.Number 2 5)
unfolding command
matters_2f_2 =
    record {
      a = 0x2f ∷ 0 ∷ 0 ∷ 0 ∷ 0 ∷ 0 ∷ 0 ∷ 0 ∷ 0 ∷ 0 ∷ 0 ∷ 0 ∷ 0 ∷ 0 ∷ 0 ∷ 0 ∷ [];
      b = 0x2f ∷ 0 ∷ 0 ∷ 0 ∷ 0 ∷ 0x01 ∷ 0 ∷ 0 ∷ 0 ∷ 0 ∷ 0 ∷ 0 ∷ 0 ∷ 0 ∷ 0 ∷ 0 ∷ [];
      a_asks = refl;
      b_asks = refl;
      alike = refl;
      differ = λ e. cc;
    }

matters_2f_3 : Matters (λ cdb. byte 0 cdb == 0x2f) (Field.Number 7 8)
unfolding command
matters_2f_3 =
    record {
      a = 0x2f ∷ 0 ∷ 0 ∷ 0 ∷ 0 ∷ 0 ∷ 0 ∷ 0 ∷ 0 ∷ 0 ∷ 0 ∷ 0 ∷ 0 ∷ 0 ∷ 0 ∷ 0 ∷ [];
      b = 0x2f ∷ 0 ∷ 0 ∷ 0 ∷ 0 ∷ 0 ∷ 0 ∷ 0 ∷ 0x01 ∷ 0 ∷ 0 ∷ 0 ∷ 0 ∷ 0 ∷ 0 ∷ 0 ∷ [];
      a_asks = refl;
      b_asks = refl;
      alike = refl;
      differ = λ e. cc;
    }

matters_34_0 : Matters (λ cdb. byte 0 cdb == 0x34) (Field.Number 2 5)
unfolding command
matters_34_0 =
    record {
      a = 0x34 ∷ 0 ∷ 0 ∷ 0 ∷ 0 ∷ 0 ∷ 0 ∷ 0 ∷ 0 ∷ 0 ∷ 0 ∷ 0 ∷ 0 ∷ 0 ∷ 0 ∷ 0 ∷ [];
      b = 0x34 ∷ 0 ∷ 0 ∷ 0 ∷ 0 ∷ 0x01 ∷ 0 ∷ 0 ∷ 0 ∷ 0 ∷ 0 ∷ 0 ∷ 0 ∷ 0 ∷ 0 ∷ 0 ∷ [];
      a_asks = refl;
      b_asks = refl;
      alike = refl;
      differ = λ e. cc;
    }

matters_34_1 : Matters (λ cdb. byte 0 cdb == 0x34) (Field.Number 7 8)
unfolding command
matters_34_1 =
    record {
      a = 0x34 ∷ 0 ∷ 0 ∷ 0 ∷ 0 ∷ 0 ∷ 0 ∷ 0 ∷ 0 ∷ 0 ∷ 0 ∷ 0 ∷ 0 ∷ 0 ∷ 0 ∷ 0 ∷ [];
      b = 0x34 ∷ 0 ∷ 0 ∷ 0 ∷ 0 ∷ 0 ∷ 0 ∷ 0 ∷ 0x01 ∷ 0 ∷ 0 ∷ 0 ∷ 0 ∷ 0 ∷ 0 ∷ 0 ∷ [];
      a_asks = refl;
      b_asks = refl;
      alike = refl;
      differ = λ e. cc;
    }

matters_35_0 : Matters (λ cdb. byte 0 cdb == 0x35) (Field.Number 2 5)
unfolding command
matters_35_0 =
    record {
      a = 0x35 ∷ 0 ∷ 0 ∷ 0 ∷ 0 ∷ 0 ∷ 0 ∷ 0 ∷ 0 ∷ 0 ∷ 0 ∷ 0 ∷ 0 ∷ 0 ∷ 0 ∷ 0 ∷ [];
      b = 0x35 ∷ 0 ∷ 0 ∷ 0 ∷ 0 ∷ 0x01 ∷ 0 ∷ 0 ∷ 0 ∷ 0 ∷ 0 ∷ 0 ∷ 0 ∷ 0 ∷ 0 ∷ 0 ∷ [];
      a_asks = refl;
      b_asks = refl;
      alike = refl;
      differ = λ e. cc;
    }

matters_35_1 : Matters (λ cdb. byte 0 cdb == 0x35) (Field.Number 7 8)
unfolding command
matters_35_1 =
    record {
      a = 0x35 ∷ 0 ∷ 0 ∷ 0 ∷ 0 ∷ 0 ∷ 0 ∷ 0 ∷ 0 ∷ 0 ∷ 0 ∷ 0 ∷ 0 ∷ 0 ∷ 0 ∷ 0 ∷ [];
      b = 0x35 ∷ 0 ∷ 0 ∷ 0 ∷ 0 ∷ 0 ∷ 0 ∷ 0 ∷ 0x01 ∷ 0 ∷ 0 ∷ 0 ∷ 0 ∷ 0 ∷ 0 ∷ 0 ∷ [];
      a_asks = refl;
      b_asks = refl;
      alike = refl;
      differ = λ e. cc;
    }

matters_37_0 : Matters (λ cdb. byte 0 cdb == 0x37) (Field.Bits 2 4 4)
unfolding command
matters_37_0 =
    record {
      a = 0x37 ∷ 0 ∷ 0 ∷ 0 ∷ 0 ∷ 0 ∷ 0 ∷ 0 ∷ 0 ∷ 0 ∷ 0 ∷ 0 ∷ 0 ∷ 0 ∷ 0 ∷ 0 ∷ [];
      b = 0x37 ∷ 0 ∷ 0x10 ∷ 0 ∷ 0 ∷ 0 ∷ 0 ∷ 0 ∷ 0 ∷ 0 ∷ 0 ∷ 0 ∷ 0 ∷ 0 ∷ 0 ∷ 0 ∷ [];
      a_asks = refl;
      b_asks = refl;
      alike = refl;
      differ = λ e. apart (ap (lists (λ r. not r.primary)) e);
    }

matters_37_1 : Matters (λ cdb. byte 0 cdb == 0x37) (Field.Bits 2 3 3)
unfolding command
matters_37_1 =
    record {
      a = 0x37 ∷ 0 ∷ 0 ∷ 0 ∷ 0 ∷ 0 ∷ 0 ∷ 0 ∷ 0 ∷ 0 ∷ 0 ∷ 0 ∷ 0 ∷ 0 ∷ 0 ∷ 0 ∷ [];
      b = 0x37 ∷ 0 ∷ 0x08 ∷ 0 ∷ 0 ∷ 0 ∷ 0 ∷ 0 ∷ 0 ∷ 0 ∷ 0 ∷ 0 ∷ 0 ∷ 0 ∷ 0 ∷ 0 ∷ [];
      a_asks = refl;
      b_asks = refl;
      alike = refl;
      differ = λ e. apart (ap (lists (λ r. not r.grown)) e);
    }

matters_37_2 : Matters (λ cdb. byte 0 cdb == 0x37) (Field.Bits 2 2 0)
unfolding command
matters_37_2 =
    record {
      a = 0x37 ∷ 0 ∷ 0 ∷ 0 ∷ 0 ∷ 0 ∷ 0 ∷ 0 ∷ 0 ∷ 0 ∷ 0 ∷ 0 ∷ 0 ∷ 0 ∷ 0 ∷ 0 ∷ [];
      b = 0x37 ∷ 0 ∷ 0x01 ∷ 0 ∷ 0 ∷ 0 ∷ 0 ∷ 0 ∷ 0 ∷ 0 ∷ 0 ∷ 0 ∷ 0 ∷ 0 ∷ 0 ∷ 0 ∷ [];
      a_asks = refl;
      b_asks = refl;
      alike = refl;
      differ = λ e. apart (ap (lists (λ r. are_short_blocks r.format)) e);
    }

matters_37_3 : Matters (λ cdb. byte 0 cdb == 0x37) (Field.Number 7 8)
unfolding command
matters_37_3 =
    record {
      a = 0x37 ∷ 0 ∷ 0 ∷ 0 ∷ 0 ∷ 0 ∷ 0 ∷ 0 ∷ 0 ∷ 0 ∷ 0 ∷ 0 ∷ 0 ∷ 0 ∷ 0 ∷ 0 ∷ [];
      b = 0x37 ∷ 0 ∷ 0 ∷ 0 ∷ 0 ∷ 0 ∷ 0 ∷ 0 ∷ 0x01 ∷ 0 ∷ 0 ∷ 0 ∷ 0 ∷ 0 ∷ 0 ∷ 0 ∷ [];
      a_asks = refl;
      b_asks = refl;
      alike = refl;
      differ = λ e. apart (ap (lists (λ r. r.allocation == 0)) e);
    }

matters_41_0 : Matters (λ cdb. byte 0 cdb == 0x41) (Field.Bits 1 7 5)
unfolding command
matters_41_0 =
    record {
      a = 0x41 ∷ 0 ∷ 0 ∷ 0 ∷ 0 ∷ 0 ∷ 0 ∷ 0 ∷ 0x01 ∷ 0 ∷ 0 ∷ 0 ∷ 0 ∷ 0 ∷ 0 ∷ 0 ∷ [];
      b = 0x41 ∷ 0x20 ∷ 0 ∷ 0 ∷ 0 ∷ 0 ∷ 0 ∷ 0 ∷ 0x01 ∷ 0 ∷ 0 ∷ 0 ∷ 0 ∷ 0 ∷ 0 ∷ 0 ∷ [];
      a_asks = refl;
      b_asks = refl;
      alike = refl;
      differ = λ e. cc;
    }

matters_41_1 : Matters (λ cdb. byte 0 cdb == 0x41) (Field.Bits 1 4 4)
unfolding command
matters_41_1 =
    record {
      a = 0x41 ∷ 0 ∷ 0 ∷ 0 ∷ 0 ∷ 0 ∷ 0 ∷ 0 ∷ 0x01 ∷ 0 ∷ 0 ∷ 0 ∷ 0 ∷ 0 ∷ 0 ∷ 0 ∷ [];
      b = 0x41 ∷ 0x10 ∷ 0 ∷ 0 ∷ 0 ∷ 0 ∷ 0 ∷ 0 ∷ 0x01 ∷ 0 ∷ 0 ∷ 0 ∷ 0 ∷ 0 ∷ 0 ∷ 0 ∷ [];
      a_asks = refl;
      b_asks = refl;
      alike = refl;
      differ = λ e. cc;
    }

matters_41_2 : Matters (λ cdb. byte 0 cdb == 0x41) (Field.Bits 1 2 1)
unfolding command
matters_41_2 =
    record {
      a = 0x41 ∷ 0 ∷ 0 ∷ 0 ∷ 0 ∷ 0 ∷ 0 ∷ 0 ∷ 0x01 ∷ 0 ∷ 0 ∷ 0 ∷ 0 ∷ 0 ∷ 0 ∷ 0 ∷ [];
      b = 0x41 ∷ 0x02 ∷ 0 ∷ 0 ∷ 0 ∷ 0 ∷ 0 ∷ 0 ∷ 0x01 ∷ 0 ∷ 0 ∷ 0 ∷ 0 ∷ 0 ∷ 0 ∷ 0 ∷ [];
      a_asks = refl;
      b_asks = refl;
      alike = refl;
      differ = λ e. cc;
    }

matters_41_3 : Matters (λ cdb. byte 0 cdb == 0x41) (Field.Number 2 5)
unfolding command
matters_41_3 =
    record {
      a = 0x41 ∷ 0 ∷ 0 ∷ 0 ∷ 0 ∷ 0 ∷ 0 ∷ 0 ∷ 0x01 ∷ 0 ∷ 0 ∷ 0 ∷ 0 ∷ 0 ∷ 0 ∷ 0 ∷ [];
      b = 0x41 ∷ 0 ∷ 0 ∷ 0 ∷ 0 ∷ 0x01 ∷ 0 ∷ 0 ∷ 0x01 ∷ 0 ∷ 0 ∷ 0 ∷ 0 ∷ 0 ∷ 0 ∷ 0 ∷ [];
      a_asks = refl;
      b_asks = refl;
      alike = refl;
      differ = λ e. cc;
    }

matters_41_4 : Matters (λ cdb. byte 0 cdb == 0x41) (Field.Number 7 8)
unfolding command
matters_41_4 =
    record {
      a = 0x41 ∷ 0 ∷ 0 ∷ 0 ∷ 0 ∷ 0 ∷ 0 ∷ 0 ∷ 0x01 ∷ 0 ∷ 0 ∷ 0 ∷ 0 ∷ 0 ∷ 0 ∷ 0 ∷ [];
      b = 0x41 ∷ 0 ∷ 0 ∷ 0 ∷ 0 ∷ 0 ∷ 0 ∷ 0 ∷ 0x02 ∷ 0 ∷ 0 ∷ 0 ∷ 0 ∷ 0 ∷ 0 ∷ 0 ∷ [];
      a_asks = refl;
      b_asks = refl;
      alike = refl;
      differ = λ e. cc;
    }

matters_42_0 : Matters (λ cdb. byte 0 cdb == 0x42) (Field.Bits 1 0 0)
unfolding command
matters_42_0 =
    record {
      a = 0x42 ∷ 0 ∷ 0 ∷ 0 ∷ 0 ∷ 0 ∷ 0 ∷ 0 ∷ 0 ∷ 0 ∷ 0 ∷ 0 ∷ 0 ∷ 0 ∷ 0 ∷ 0 ∷ [];
      b = 0x42 ∷ 0x01 ∷ 0 ∷ 0 ∷ 0 ∷ 0 ∷ 0 ∷ 0 ∷ 0 ∷ 0 ∷ 0 ∷ 0 ∷ 0 ∷ 0 ∷ 0 ∷ 0 ∷ [];
      a_asks = refl;
      b_asks = refl;
      alike = refl;
      differ = λ e. cc;
    }

matters_42_1 : Matters (λ cdb. byte 0 cdb == 0x42) (Field.Number 7 8)
unfolding command
matters_42_1 =
    record {
      a = 0x42 ∷ 0 ∷ 0 ∷ 0 ∷ 0 ∷ 0 ∷ 0 ∷ 0 ∷ 0 ∷ 0 ∷ 0 ∷ 0 ∷ 0 ∷ 0 ∷ 0 ∷ 0 ∷ [];
      b = 0x42 ∷ 0 ∷ 0 ∷ 0 ∷ 0 ∷ 0 ∷ 0 ∷ 0 ∷ 0x01 ∷ 0 ∷ 0 ∷ 0 ∷ 0 ∷ 0 ∷ 0 ∷ 0 ∷ [];
      a_asks = refl;
      b_asks = refl;
      alike = refl;
      differ = λ e. cc;
    }

matters_55_0 : Matters (λ cdb. byte 0 cdb == 0x55) (Field.Bits 1 4 4)
unfolding command
matters_55_0 =
    record {
      a = 0x55 ∷ 0x10 ∷ 0 ∷ 0 ∷ 0 ∷ 0 ∷ 0 ∷ 0 ∷ 0 ∷ 0 ∷ 0 ∷ 0 ∷ 0 ∷ 0 ∷ 0 ∷ 0 ∷ [];
      b = 0x55 ∷ 0 ∷ 0 ∷ 0 ∷ 0 ∷ 0 ∷ 0 ∷ 0 ∷ 0 ∷ 0 ∷ 0 ∷ 0 ∷ 0 ∷ 0 ∷ 0 ∷ 0 ∷ [];
      a_asks = refl;
      b_asks = refl;
      alike = refl;
      differ = λ e. cc;
    }

matters_55_1 : Matters (λ cdb. byte 0 cdb == 0x55) (Field.Bits 1 0 0)
unfolding command
matters_55_1 =
    record {
      a = 0x55 ∷ 0x10 ∷ 0 ∷ 0 ∷ 0 ∷ 0 ∷ 0 ∷ 0 ∷ 0 ∷ 0 ∷ 0 ∷ 0 ∷ 0 ∷ 0 ∷ 0 ∷ 0 ∷ [];
      b = 0x55 ∷ 0x11 ∷ 0 ∷ 0 ∷ 0 ∷ 0 ∷ 0 ∷ 0 ∷ 0 ∷ 0 ∷ 0 ∷ 0 ∷ 0 ∷ 0 ∷ 0 ∷ 0 ∷ [];
      a_asks = refl;
      b_asks = refl;
      alike = refl;
      differ = λ e. cc;
    }

matters_55_2 : Matters (λ cdb. byte 0 cdb == 0x55) (Field.Number 7 8)
unfolding command
matters_55_2 =
    record {
      a = 0x55 ∷ 0x10 ∷ 0 ∷ 0 ∷ 0 ∷ 0 ∷ 0 ∷ 0 ∷ 0 ∷ 0 ∷ 0 ∷ 0 ∷ 0 ∷ 0 ∷ 0 ∷ 0 ∷ [];
      b = 0x55 ∷ 0x10 ∷ 0 ∷ 0 ∷ 0 ∷ 0 ∷ 0 ∷ 0 ∷ 0x01 ∷ 0 ∷ 0 ∷ 0 ∷ 0 ∷ 0 ∷ 0 ∷ 0 ∷ [];
      a_asks = refl;
      b_asks = refl;
      alike = refl;
      differ = λ e. cc;
    }

matters_5a_0 : Matters (λ cdb. byte 0 cdb == 0x5a) (Field.Bits 1 4 4)
unfolding command
matters_5a_0 =
    record {
      a = 0x5a ∷ 0 ∷ 0x3f ∷ 0 ∷ 0 ∷ 0 ∷ 0 ∷ 0 ∷ 0 ∷ 0 ∷ 0 ∷ 0 ∷ 0 ∷ 0 ∷ 0 ∷ 0 ∷ [];
      b = 0x5a ∷ 0x10 ∷ 0x3f ∷ 0 ∷ 0 ∷ 0 ∷ 0 ∷ 0 ∷ 0 ∷ 0 ∷ 0 ∷ 0 ∷ 0 ∷ 0 ∷ 0 ∷ 0 ∷ [];
      a_asks = refl;
      b_asks = refl;
      alike = refl;
      differ = λ e. apart (ap (senses (λ r. is_short r.descriptor)) e);
    }

matters_5a_1 : Matters (λ cdb. byte 0 cdb == 0x5a) (Field.Bits 1 3 3)
unfolding command
matters_5a_1 =
    record {
      a = 0x5a ∷ 0 ∷ 0x3f ∷ 0 ∷ 0 ∷ 0 ∷ 0 ∷ 0 ∷ 0 ∷ 0 ∷ 0 ∷ 0 ∷ 0 ∷ 0 ∷ 0 ∷ 0 ∷ [];
      b = 0x5a ∷ 0x08 ∷ 0x3f ∷ 0 ∷ 0 ∷ 0 ∷ 0 ∷ 0 ∷ 0 ∷ 0 ∷ 0 ∷ 0 ∷ 0 ∷ 0 ∷ 0 ∷ 0 ∷ [];
      a_asks = refl;
      b_asks = refl;
      alike = refl;
      differ = λ e. apart (ap (senses (λ r. is_short r.descriptor)) e);
    }

matters_5a_2 : Matters (λ cdb. byte 0 cdb == 0x5a) (Field.Bits 2 7 6)
unfolding command
matters_5a_2 =
    record {
      a = 0x5a ∷ 0 ∷ 0x3f ∷ 0 ∷ 0 ∷ 0 ∷ 0 ∷ 0 ∷ 0 ∷ 0 ∷ 0 ∷ 0 ∷ 0 ∷ 0 ∷ 0 ∷ 0 ∷ [];
      b = 0x5a ∷ 0 ∷ 0x7f ∷ 0 ∷ 0 ∷ 0 ∷ 0 ∷ 0 ∷ 0 ∷ 0 ∷ 0 ∷ 0 ∷ 0 ∷ 0 ∷ 0 ∷ 0 ∷ [];
      a_asks = refl;
      b_asks = refl;
      alike = refl;
      differ = λ e. apart (ap (senses (λ r. is_current r.values)) e);
    }

matters_5a_3 : Matters (λ cdb. byte 0 cdb == 0x5a) (Field.Bits 2 5 0)
unfolding command
matters_5a_3 =
    record {
      a = 0x5a ∷ 0 ∷ 0x3f ∷ 0 ∷ 0 ∷ 0 ∷ 0 ∷ 0 ∷ 0 ∷ 0 ∷ 0 ∷ 0 ∷ 0 ∷ 0 ∷ 0 ∷ 0 ∷ [];
      b = 0x5a ∷ 0 ∷ 0x08 ∷ 0 ∷ 0 ∷ 0 ∷ 0 ∷ 0 ∷ 0 ∷ 0 ∷ 0 ∷ 0 ∷ 0 ∷ 0 ∷ 0 ∷ 0 ∷ [];
      a_asks = refl;
      b_asks = refl;
      alike = refl;
      differ = λ e. apart (ap (senses (λ r. are_all r.pages)) e);
    }

matters_5a_4 : Matters (λ cdb. byte 0 cdb == 0x5a) (Field.Whole 3)
unfolding command
matters_5a_4 =
    record {
      a = 0x5a ∷ 0 ∷ 0x3f ∷ 0 ∷ 0 ∷ 0 ∷ 0 ∷ 0 ∷ 0 ∷ 0 ∷ 0 ∷ 0 ∷ 0 ∷ 0 ∷ 0 ∷ 0 ∷ [];
      b = 0x5a ∷ 0 ∷ 0x3f ∷ 0x01 ∷ 0 ∷ 0 ∷ 0 ∷ 0 ∷ 0 ∷ 0 ∷ 0 ∷ 0 ∷ 0 ∷ 0 ∷ 0 ∷ 0 ∷ [];
      a_asks = refl;
      b_asks = refl;
      alike = refl;
      differ = λ e. cc;
    }

matters_5a_5 : Matters (λ cdb. byte 0 cdb == 0x5a) (Field.Number 7 8)
unfolding command
matters_5a_5 =
    record {
      a = 0x5a ∷ 0 ∷ 0x3f ∷ 0 ∷ 0 ∷ 0 ∷ 0 ∷ 0 ∷ 0 ∷ 0 ∷ 0 ∷ 0 ∷ 0 ∷ 0 ∷ 0 ∷ 0 ∷ [];
      b = 0x5a ∷ 0 ∷ 0x3f ∷ 0 ∷ 0 ∷ 0 ∷ 0 ∷ 0 ∷ 0x01 ∷ 0 ∷ 0 ∷ 0 ∷ 0 ∷ 0 ∷ 0 ∷ 0 ∷ [];
      a_asks = refl;
      b_asks = refl;
      alike = refl;
      differ = λ e. apart (ap (senses (λ r. r.allocation == 0)) e);
    }

matters_88_0 : Matters (λ cdb. byte 0 cdb == 0x88) (Field.Bits 1 7 5)
unfolding command
matters_88_0 =
    record {
      a = 0x88 ∷ 0 ∷ 0 ∷ 0 ∷ 0 ∷ 0 ∷ 0 ∷ 0 ∷ 0 ∷ 0 ∷ 0 ∷ 0 ∷ 0 ∷ 0 ∷ 0 ∷ 0 ∷ [];
      b = 0x88 ∷ 0x20 ∷ 0 ∷ 0 ∷ 0 ∷ 0 ∷ 0 ∷ 0 ∷ 0 ∷ 0 ∷ 0 ∷ 0 ∷ 0 ∷ 0 ∷ 0 ∷ 0 ∷ [];
      a_asks = refl;
      b_asks = refl;
      alike = refl;
      differ = λ e. cc;
    }

matters_88_1 : Matters (λ cdb. byte 0 cdb == 0x88) (Field.Number 2 9)
unfolding command
matters_88_1 =
    record {
      a = 0x88 ∷ 0 ∷ 0 ∷ 0 ∷ 0 ∷ 0 ∷ 0 ∷ 0 ∷ 0 ∷ 0 ∷ 0 ∷ 0 ∷ 0 ∷ 0 ∷ 0 ∷ 0 ∷ [];
      b = 0x88 ∷ 0 ∷ 0 ∷ 0 ∷ 0 ∷ 0 ∷ 0 ∷ 0 ∷ 0 ∷ 0x01 ∷ 0 ∷ 0 ∷ 0 ∷ 0 ∷ 0 ∷ 0 ∷ [];
      a_asks = refl;
      b_asks = refl;
      alike = refl;
      differ = λ e. cc;
    }

matters_88_2 : Matters (λ cdb. byte 0 cdb == 0x88) (Field.Number 10 13)
unfolding command
matters_88_2 =
    record {
      a = 0x88 ∷ 0 ∷ 0 ∷ 0 ∷ 0 ∷ 0 ∷ 0 ∷ 0 ∷ 0 ∷ 0 ∷ 0 ∷ 0 ∷ 0 ∷ 0 ∷ 0 ∷ 0 ∷ [];
      b = 0x88 ∷ 0 ∷ 0 ∷ 0 ∷ 0 ∷ 0 ∷ 0 ∷ 0 ∷ 0 ∷ 0 ∷ 0 ∷ 0 ∷ 0 ∷ 0x01 ∷ 0 ∷ 0 ∷ [];
      a_asks = refl;
      b_asks = refl;
      alike = refl;
      differ = λ e. cc;
    }

matters_89_0 : Matters (λ cdb. byte 0 cdb == 0x89) (Field.Bits 1 7 5)
unfolding command
matters_89_0 =
    record {
      a = 0x89 ∷ 0 ∷ 0 ∷ 0 ∷ 0 ∷ 0 ∷ 0 ∷ 0 ∷ 0 ∷ 0 ∷ 0 ∷ 0 ∷ 0 ∷ 0 ∷ 0 ∷ 0 ∷ [];
      b = 0x89 ∷ 0x20 ∷ 0 ∷ 0 ∷ 0 ∷ 0 ∷ 0 ∷ 0 ∷ 0 ∷ 0 ∷ 0 ∷ 0 ∷ 0 ∷ 0 ∷ 0 ∷ 0 ∷ [];
      a_asks = refl;
      b_asks = refl;
      alike = refl;
      differ = λ e. cc;
    }

matters_89_1 : Matters (λ cdb. byte 0 cdb == 0x89) (Field.Number 2 9)
unfolding command
matters_89_1 =
    record {
      a = 0x89 ∷ 0 ∷ 0 ∷ 0 ∷ 0 ∷ 0 ∷ 0 ∷ 0 ∷ 0 ∷ 0 ∷ 0 ∷ 0 ∷ 0 ∷ 0 ∷ 0 ∷ 0 ∷ [];
      b = 0x89 ∷ 0 ∷ 0 ∷ 0 ∷ 0 ∷ 0 ∷ 0 ∷ 0 ∷ 0 ∷ 0x01 ∷ 0 ∷ 0 ∷ 0 ∷ 0 ∷ 0 ∷ 0 ∷ [];
      a_asks = refl;
      b_asks = refl;
      alike = refl;
      differ = λ e. cc;
    }

matters_89_2 : Matters (λ cdb. byte 0 cdb == 0x89) (Field.Whole 13)
unfolding command
matters_89_2 =
    record {
      a = 0x89 ∷ 0 ∷ 0 ∷ 0 ∷ 0 ∷ 0 ∷ 0 ∷ 0 ∷ 0 ∷ 0 ∷ 0 ∷ 0 ∷ 0 ∷ 0 ∷ 0 ∷ 0 ∷ [];
      b = 0x89 ∷ 0 ∷ 0 ∷ 0 ∷ 0 ∷ 0 ∷ 0 ∷ 0 ∷ 0 ∷ 0 ∷ 0 ∷ 0 ∷ 0 ∷ 0x01 ∷ 0 ∷ 0 ∷ [];
      a_asks = refl;
      b_asks = refl;
      alike = refl;
      differ = λ e. cc;
    }

matters_8a_0 : Matters (λ cdb. byte 0 cdb == 0x8a) (Field.Bits 1 7 5)
unfolding command
matters_8a_0 =
    record {
      a = 0x8a ∷ 0 ∷ 0 ∷ 0 ∷ 0 ∷ 0 ∷ 0 ∷ 0 ∷ 0 ∷ 0 ∷ 0 ∷ 0 ∷ 0 ∷ 0 ∷ 0 ∷ 0 ∷ [];
      b = 0x8a ∷ 0x20 ∷ 0 ∷ 0 ∷ 0 ∷ 0 ∷ 0 ∷ 0 ∷ 0 ∷ 0 ∷ 0 ∷ 0 ∷ 0 ∷ 0 ∷ 0 ∷ 0 ∷ [];
      a_asks = refl;
      b_asks = refl;
      alike = refl;
      differ = λ e. cc;
    }

matters_8a_1 : Matters (λ cdb. byte 0 cdb == 0x8a) (Field.Number 2 9)
unfolding command
matters_8a_1 =
    record {
      a = 0x8a ∷ 0 ∷ 0 ∷ 0 ∷ 0 ∷ 0 ∷ 0 ∷ 0 ∷ 0 ∷ 0 ∷ 0 ∷ 0 ∷ 0 ∷ 0 ∷ 0 ∷ 0 ∷ [];
      b = 0x8a ∷ 0 ∷ 0 ∷ 0 ∷ 0 ∷ 0 ∷ 0 ∷ 0 ∷ 0 ∷ 0x01 ∷ 0 ∷ 0 ∷ 0 ∷ 0 ∷ 0 ∷ 0 ∷ [];
      a_asks = refl;
      b_asks = refl;
      alike = refl;
      differ = λ e. cc;
    }

matters_8a_2 : Matters (λ cdb. byte 0 cdb == 0x8a) (Field.Number 10 13)
unfolding command
matters_8a_2 =
    record {
      a = 0x8a ∷ 0 ∷ 0 ∷ 0 ∷ 0 ∷ 0 ∷ 0 ∷ 0 ∷ 0 ∷ 0 ∷ 0 ∷ 0 ∷ 0 ∷ 0 ∷ 0 ∷ 0 ∷ [];
      b = 0x8a ∷ 0 ∷ 0 ∷ 0 ∷ 0 ∷ 0 ∷ 0 ∷ 0 ∷ 0 ∷ 0 ∷ 0 ∷ 0 ∷ 0 ∷ 0x01 ∷ 0 ∷ 0 ∷ [];
      a_asks = refl;
      b_asks = refl;
      alike = refl;
      differ = λ e. cc;
    }

matters_8b_0 : Matters (λ cdb. byte 0 cdb == 0x8b) (Field.Bits 1 7 5)
unfolding command
matters_8b_0 =
    record {
      a = 0x8b ∷ 0 ∷ 0 ∷ 0 ∷ 0 ∷ 0 ∷ 0 ∷ 0 ∷ 0 ∷ 0 ∷ 0 ∷ 0 ∷ 0 ∷ 0 ∷ 0 ∷ 0 ∷ [];
      b = 0x8b ∷ 0x20 ∷ 0 ∷ 0 ∷ 0 ∷ 0 ∷ 0 ∷ 0 ∷ 0 ∷ 0 ∷ 0 ∷ 0 ∷ 0 ∷ 0 ∷ 0 ∷ 0 ∷ [];
      a_asks = refl;
      b_asks = refl;
      alike = refl;
      differ = λ e. cc;
    }

matters_8b_1 : Matters (λ cdb. byte 0 cdb == 0x8b) (Field.Number 2 9)
unfolding command
matters_8b_1 =
    record {
      a = 0x8b ∷ 0 ∷ 0 ∷ 0 ∷ 0 ∷ 0 ∷ 0 ∷ 0 ∷ 0 ∷ 0 ∷ 0 ∷ 0 ∷ 0 ∷ 0 ∷ 0 ∷ 0 ∷ [];
      b = 0x8b ∷ 0 ∷ 0 ∷ 0 ∷ 0 ∷ 0 ∷ 0 ∷ 0 ∷ 0 ∷ 0x01 ∷ 0 ∷ 0 ∷ 0 ∷ 0 ∷ 0 ∷ 0 ∷ [];
      a_asks = refl;
      b_asks = refl;
      alike = refl;
      differ = λ e. cc;
    }

matters_8b_2 : Matters (λ cdb. byte 0 cdb == 0x8b) (Field.Number 10 13)
unfolding command
matters_8b_2 =
    record {
      a = 0x8b ∷ 0 ∷ 0 ∷ 0 ∷ 0 ∷ 0 ∷ 0 ∷ 0 ∷ 0 ∷ 0 ∷ 0 ∷ 0 ∷ 0 ∷ 0 ∷ 0 ∷ 0 ∷ [];
      b = 0x8b ∷ 0 ∷ 0 ∷ 0 ∷ 0 ∷ 0 ∷ 0 ∷ 0 ∷ 0 ∷ 0 ∷ 0 ∷ 0 ∷ 0 ∷ 0x01 ∷ 0 ∷ 0 ∷ [];
      a_asks = refl;
      b_asks = refl;
      alike = refl;
      differ = λ e. cc;
    }

matters_8e_0 : Matters (λ cdb. byte 0 cdb == 0x8e) (Field.Bits 1 2 1)
unfolding command
matters_8e_0 =
    record {
      a = 0x8e ∷ 0 ∷ 0 ∷ 0 ∷ 0 ∷ 0 ∷ 0 ∷ 0 ∷ 0 ∷ 0 ∷ 0 ∷ 0 ∷ 0 ∷ 0 ∷ 0 ∷ 0 ∷ [];
      b = 0x8e ∷ 0x04 ∷ 0 ∷ 0 ∷ 0 ∷ 0 ∷ 0 ∷ 0 ∷ 0 ∷ 0 ∷ 0 ∷ 0 ∷ 0 ∷ 0 ∷ 0 ∷ 0 ∷ [];
      a_asks = refl;
      b_asks = refl;
      alike = refl;
      differ = λ e. cc;
    }

matters_8e_1 : Matters (λ cdb. byte 0 cdb == 0x8e) (Field.Bits 1 7 5)
unfolding command
matters_8e_1 =
    record {
      a = 0x8e ∷ 0 ∷ 0 ∷ 0 ∷ 0 ∷ 0 ∷ 0 ∷ 0 ∷ 0 ∷ 0 ∷ 0 ∷ 0 ∷ 0 ∷ 0 ∷ 0 ∷ 0 ∷ [];
      b = 0x8e ∷ 0x20 ∷ 0 ∷ 0 ∷ 0 ∷ 0 ∷ 0 ∷ 0 ∷ 0 ∷ 0 ∷ 0 ∷ 0 ∷ 0 ∷ 0 ∷ 0 ∷ 0 ∷ [];
      a_asks = refl;
      b_asks = refl;
      alike = refl;
      differ = λ e. cc;
    }

matters_8e_2 : Matters (λ cdb. byte 0 cdb == 0x8e) (Field.Number 2 9)
unfolding command
matters_8e_2 =
    record {
      a = 0x8e ∷ 0 ∷ 0 ∷ 0 ∷ 0 ∷ 0 ∷ 0 ∷ 0 ∷ 0 ∷ 0 ∷ 0 ∷ 0 ∷ 0 ∷ 0 ∷ 0 ∷ 0 ∷ [];
      b = 0x8e ∷ 0 ∷ 0 ∷ 0 ∷ 0 ∷ 0 ∷ 0 ∷ 0 ∷ 0 ∷ 0x01 ∷ 0 ∷ 0 ∷ 0 ∷ 0 ∷ 0 ∷ 0 ∷ [];
      a_asks = refl;
      b_asks = refl;
      alike = refl;
      differ = λ e. cc;
    }

matters_8e_3 : Matters (λ cdb. byte 0 cdb == 0x8e) (Field.Number 10 13)
unfolding command
matters_8e_3 =
    record {
      a = 0x8e ∷ 0 ∷ 0 ∷ 0 ∷ 0 ∷ 0 ∷ 0 ∷ 0 ∷ 0 ∷ 0 ∷ 0 ∷ 0 ∷ 0 ∷ 0 ∷ 0 ∷ 0 ∷ [];
      b = 0x8e ∷ 0 ∷ 0 ∷ 0 ∷ 0 ∷ 0 ∷ 0 ∷ 0 ∷ 0 ∷ 0 ∷ 0 ∷ 0 ∷ 0 ∷ 0x01 ∷ 0 ∷ 0 ∷ [];
      a_asks = refl;
      b_asks = refl;
      alike = refl;
      differ = λ e. cc;
    }

matters_8f_0 : Matters (λ cdb. byte 0 cdb == 0x8f) (Field.Bits 1 2 1)
unfolding command
matters_8f_0 =
    record {
      a = 0x8f ∷ 0 ∷ 0 ∷ 0 ∷ 0 ∷ 0 ∷ 0 ∷ 0 ∷ 0 ∷ 0 ∷ 0 ∷ 0 ∷ 0 ∷ 0 ∷ 0 ∷ 0 ∷ [];
      b = 0x8f ∷ 0x02 ∷ 0 ∷ 0 ∷ 0 ∷ 0 ∷ 0 ∷ 0 ∷ 0 ∷ 0 ∷ 0 ∷ 0 ∷ 0 ∷ 0 ∷ 0 ∷ 0 ∷ [];
      a_asks = refl;
      b_asks = refl;
      alike = refl;
      differ = λ e. cc;
    }

matters_8f_1 : Matters (λ cdb. byte 0 cdb == 0x8f) (Field.Bits 1 7 5)
unfolding command
matters_8f_1 =
    record {
      a = 0x8f ∷ 0 ∷ 0 ∷ 0 ∷ 0 ∷ 0 ∷ 0 ∷ 0 ∷ 0 ∷ 0 ∷ 0 ∷ 0 ∷ 0 ∷ 0 ∷ 0 ∷ 0 ∷ [];
      b = 0x8f ∷ 0x20 ∷ 0 ∷ 0 ∷ 0 ∷ 0 ∷ 0 ∷ 0 ∷ 0 ∷ 0 ∷ 0 ∷ 0 ∷ 0 ∷ 0 ∷ 0 ∷ 0 ∷ [];
      a_asks = refl;
      b_asks = refl;
      alike = refl;
      differ = λ e. cc;
    }

matters_8f_2 : Matters (λ cdb. byte 0 cdb == 0x8f) (Field.Number 2 9)
unfolding command
matters_8f_2 =
    record {
      a = 0x8f ∷ 0 ∷ 0 ∷ 0 ∷ 0 ∷ 0 ∷ 0 ∷ 0 ∷ 0 ∷ 0 ∷ 0 ∷ 0 ∷ 0 ∷ 0 ∷ 0 ∷ 0 ∷ [];
      b = 0x8f ∷ 0 ∷ 0 ∷ 0 ∷ 0 ∷ 0 ∷ 0 ∷ 0 ∷ 0 ∷ 0x01 ∷ 0 ∷ 0 ∷ 0 ∷ 0 ∷ 0 ∷ 0 ∷ [];
      a_asks = refl;
      b_asks = refl;
      alike = refl;
      differ = λ e. cc;
    }

matters_8f_3 : Matters (λ cdb. byte 0 cdb == 0x8f) (Field.Number 10 13)
unfolding command
matters_8f_3 =
    record {
      a = 0x8f ∷ 0 ∷ 0 ∷ 0 ∷ 0 ∷ 0 ∷ 0 ∷ 0 ∷ 0 ∷ 0 ∷ 0 ∷ 0 ∷ 0 ∷ 0 ∷ 0 ∷ 0 ∷ [];
      b = 0x8f ∷ 0 ∷ 0 ∷ 0 ∷ 0 ∷ 0 ∷ 0 ∷ 0 ∷ 0 ∷ 0 ∷ 0 ∷ 0 ∷ 0 ∷ 0x01 ∷ 0 ∷ 0 ∷ [];
      a_asks = refl;
      b_asks = refl;
      alike = refl;
      differ = λ e. cc;
    }

matters_90_0 : Matters (λ cdb. byte 0 cdb == 0x90) (Field.Number 2 9)
unfolding command
matters_90_0 =
    record {
      a = 0x90 ∷ 0 ∷ 0 ∷ 0 ∷ 0 ∷ 0 ∷ 0 ∷ 0 ∷ 0 ∷ 0 ∷ 0 ∷ 0 ∷ 0 ∷ 0 ∷ 0 ∷ 0 ∷ [];
      b = 0x90 ∷ 0 ∷ 0 ∷ 0 ∷ 0 ∷ 0 ∷ 0 ∷ 0 ∷ 0 ∷ 0x01 ∷ 0 ∷ 0 ∷ 0 ∷ 0 ∷ 0 ∷ 0 ∷ [];
      a_asks = refl;
      b_asks = refl;
      alike = refl;
      differ = λ e. cc;
    }

matters_90_1 : Matters (λ cdb. byte 0 cdb == 0x90) (Field.Number 10 13)
unfolding command
matters_90_1 =
    record {
      a = 0x90 ∷ 0 ∷ 0 ∷ 0 ∷ 0 ∷ 0 ∷ 0 ∷ 0 ∷ 0 ∷ 0 ∷ 0 ∷ 0 ∷ 0 ∷ 0 ∷ 0 ∷ 0 ∷ [];
      b = 0x90 ∷ 0 ∷ 0 ∷ 0 ∷ 0 ∷ 0 ∷ 0 ∷ 0 ∷ 0 ∷ 0 ∷ 0 ∷ 0 ∷ 0 ∷ 0x01 ∷ 0 ∷ 0 ∷ [];
      a_asks = refl;
      b_asks = refl;
      alike = refl;
      differ = λ e. cc;
    }

matters_91_0 : Matters (λ cdb. byte 0 cdb == 0x91) (Field.Number 2 9)
unfolding command
matters_91_0 =
    record {
      a = 0x91 ∷ 0 ∷ 0 ∷ 0 ∷ 0 ∷ 0 ∷ 0 ∷ 0 ∷ 0 ∷ 0 ∷ 0 ∷ 0 ∷ 0 ∷ 0 ∷ 0 ∷ 0 ∷ [];
      b = 0x91 ∷ 0 ∷ 0 ∷ 0 ∷ 0 ∷ 0 ∷ 0 ∷ 0 ∷ 0 ∷ 0x01 ∷ 0 ∷ 0 ∷ 0 ∷ 0 ∷ 0 ∷ 0 ∷ [];
      a_asks = refl;
      b_asks = refl;
      alike = refl;
      differ = λ e. cc;
    }

matters_91_1 : Matters (λ cdb. byte 0 cdb == 0x91) (Field.Number 10 13)
unfolding command
matters_91_1 =
    record {
      a = 0x91 ∷ 0 ∷ 0 ∷ 0 ∷ 0 ∷ 0 ∷ 0 ∷ 0 ∷ 0 ∷ 0 ∷ 0 ∷ 0 ∷ 0 ∷ 0 ∷ 0 ∷ 0 ∷ [];
      b = 0x91 ∷ 0 ∷ 0 ∷ 0 ∷ 0 ∷ 0 ∷ 0 ∷ 0 ∷ 0 ∷ 0 ∷ 0 ∷ 0 ∷ 0 ∷ 0x01 ∷ 0 ∷ 0 ∷ [];
      a_asks = refl;
      b_asks = refl;
      alike = refl;
      differ = λ e. cc;
    }

matters_93_0 : Matters (λ cdb. byte 0 cdb == 0x93) (Field.Bits 1 7 5)
unfolding command
matters_93_0 =
    record {
      a = 0x93 ∷ 0 ∷ 0 ∷ 0 ∷ 0 ∷ 0 ∷ 0 ∷ 0 ∷ 0 ∷ 0 ∷ 0 ∷ 0 ∷ 0 ∷ 0x01 ∷ 0 ∷ 0 ∷ [];
      b = 0x93 ∷ 0x20 ∷ 0 ∷ 0 ∷ 0 ∷ 0 ∷ 0 ∷ 0 ∷ 0 ∷ 0 ∷ 0 ∷ 0 ∷ 0 ∷ 0x01 ∷ 0 ∷ 0 ∷ [];
      a_asks = refl;
      b_asks = refl;
      alike = refl;
      differ = λ e. cc;
    }

matters_93_1 : Matters (λ cdb. byte 0 cdb == 0x93) (Field.Bits 1 4 4)
unfolding command
matters_93_1 =
    record {
      a = 0x93 ∷ 0 ∷ 0 ∷ 0 ∷ 0 ∷ 0 ∷ 0 ∷ 0 ∷ 0 ∷ 0 ∷ 0 ∷ 0 ∷ 0 ∷ 0x01 ∷ 0 ∷ 0 ∷ [];
      b = 0x93 ∷ 0x10 ∷ 0 ∷ 0 ∷ 0 ∷ 0 ∷ 0 ∷ 0 ∷ 0 ∷ 0 ∷ 0 ∷ 0 ∷ 0 ∷ 0x01 ∷ 0 ∷ 0 ∷ [];
      a_asks = refl;
      b_asks = refl;
      alike = refl;
      differ = λ e. cc;
    }

matters_93_2 : Matters (λ cdb. byte 0 cdb == 0x93) (Field.Bits 1 2 1)
unfolding command
matters_93_2 =
    record {
      a = 0x93 ∷ 0 ∷ 0 ∷ 0 ∷ 0 ∷ 0 ∷ 0 ∷ 0 ∷ 0 ∷ 0 ∷ 0 ∷ 0 ∷ 0 ∷ 0x01 ∷ 0 ∷ 0 ∷ [];
      b = 0x93 ∷ 0x02 ∷ 0 ∷ 0 ∷ 0 ∷ 0 ∷ 0 ∷ 0 ∷ 0 ∷ 0 ∷ 0 ∷ 0 ∷ 0 ∷ 0x01 ∷ 0 ∷ 0 ∷ [];
      a_asks = refl;
      b_asks = refl;
      alike = refl;
      differ = λ e. cc;
    }

matters_93_3 : Matters (λ cdb. byte 0 cdb == 0x93) (Field.Bits 1 0 0)
unfolding command
matters_93_3 =
    record {
      a = 0x93 ∷ 0 ∷ 0 ∷ 0 ∷ 0 ∷ 0 ∷ 0 ∷ 0 ∷ 0 ∷ 0 ∷ 0 ∷ 0 ∷ 0 ∷ 0x01 ∷ 0 ∷ 0 ∷ [];
      b = 0x93 ∷ 0x01 ∷ 0 ∷ 0 ∷ 0 ∷ 0 ∷ 0 ∷ 0 ∷ 0 ∷ 0 ∷ 0 ∷ 0 ∷ 0 ∷ 0x01 ∷ 0 ∷ 0 ∷ [];
      a_asks = refl;
      b_asks = refl;
      alike = refl;
      differ = λ e. cc;
    }

matters_93_4 : Matters (λ cdb. byte 0 cdb == 0x93) (Field.Number 2 9)
unfolding command
matters_93_4 =
    record {
      a = 0x93 ∷ 0 ∷ 0 ∷ 0 ∷ 0 ∷ 0 ∷ 0 ∷ 0 ∷ 0 ∷ 0 ∷ 0 ∷ 0 ∷ 0 ∷ 0x01 ∷ 0 ∷ 0 ∷ [];
      b = 0x93 ∷ 0 ∷ 0 ∷ 0 ∷ 0 ∷ 0 ∷ 0 ∷ 0 ∷ 0 ∷ 0x01 ∷ 0 ∷ 0 ∷ 0 ∷ 0x01 ∷ 0 ∷ 0 ∷ [];
      a_asks = refl;
      b_asks = refl;
      alike = refl;
      differ = λ e. cc;
    }

matters_93_5 : Matters (λ cdb. byte 0 cdb == 0x93) (Field.Number 10 13)
unfolding command
matters_93_5 =
    record {
      a = 0x93 ∷ 0 ∷ 0 ∷ 0 ∷ 0 ∷ 0 ∷ 0 ∷ 0 ∷ 0 ∷ 0 ∷ 0 ∷ 0 ∷ 0 ∷ 0x01 ∷ 0 ∷ 0 ∷ [];
      b = 0x93 ∷ 0 ∷ 0 ∷ 0 ∷ 0 ∷ 0 ∷ 0 ∷ 0 ∷ 0 ∷ 0 ∷ 0 ∷ 0 ∷ 0 ∷ 0x02 ∷ 0 ∷ 0 ∷ [];
      a_asks = refl;
      b_asks = refl;
      alike = refl;
      differ = λ e. cc;
    }

matters_a0_0 : Matters (λ cdb. byte 0 cdb == 0xa0) (Field.Whole 2)
unfolding command
matters_a0_0 =
    record {
      a = 0xa0 ∷ 0 ∷ 0 ∷ 0 ∷ 0 ∷ 0 ∷ 0 ∷ 0 ∷ 0 ∷ 0 ∷ 0 ∷ 0 ∷ 0 ∷ 0 ∷ 0 ∷ 0 ∷ [];
      b = 0xa0 ∷ 0 ∷ 0x01 ∷ 0 ∷ 0 ∷ 0 ∷ 0 ∷ 0 ∷ 0 ∷ 0 ∷ 0 ∷ 0 ∷ 0 ∷ 0 ∷ 0 ∷ 0 ∷ [];
      a_asks = refl;
      b_asks = refl;
      alike = refl;
      differ = λ e. cc;
    }

matters_a0_1 : Matters (λ cdb. byte 0 cdb == 0xa0) (Field.Number 6 9)
unfolding command
matters_a0_1 =
    record {
      a = 0xa0 ∷ 0 ∷ 0 ∷ 0 ∷ 0 ∷ 0 ∷ 0 ∷ 0 ∷ 0 ∷ 0 ∷ 0 ∷ 0 ∷ 0 ∷ 0 ∷ 0 ∷ 0 ∷ [];
      b = 0xa0 ∷ 0 ∷ 0 ∷ 0 ∷ 0 ∷ 0 ∷ 0 ∷ 0 ∷ 0 ∷ 0x01 ∷ 0 ∷ 0 ∷ 0 ∷ 0 ∷ 0 ∷ 0 ∷ [];
      a_asks = refl;
      b_asks = refl;
      alike = refl;
      differ = λ e. cc;
    }

matters_a8_0 : Matters (λ cdb. byte 0 cdb == 0xa8) (Field.Bits 1 7 5)
unfolding command
matters_a8_0 =
    record {
      a = 0xa8 ∷ 0 ∷ 0 ∷ 0 ∷ 0 ∷ 0 ∷ 0 ∷ 0 ∷ 0 ∷ 0 ∷ 0 ∷ 0 ∷ 0 ∷ 0 ∷ 0 ∷ 0 ∷ [];
      b = 0xa8 ∷ 0x20 ∷ 0 ∷ 0 ∷ 0 ∷ 0 ∷ 0 ∷ 0 ∷ 0 ∷ 0 ∷ 0 ∷ 0 ∷ 0 ∷ 0 ∷ 0 ∷ 0 ∷ [];
      a_asks = refl;
      b_asks = refl;
      alike = refl;
      differ = λ e. cc;
    }

matters_a8_1 : Matters (λ cdb. byte 0 cdb == 0xa8) (Field.Number 2 5)
unfolding command
matters_a8_1 =
    record {
      a = 0xa8 ∷ 0 ∷ 0 ∷ 0 ∷ 0 ∷ 0 ∷ 0 ∷ 0 ∷ 0 ∷ 0 ∷ 0 ∷ 0 ∷ 0 ∷ 0 ∷ 0 ∷ 0 ∷ [];
      b = 0xa8 ∷ 0 ∷ 0 ∷ 0 ∷ 0 ∷ 0x01 ∷ 0 ∷ 0 ∷ 0 ∷ 0 ∷ 0 ∷ 0 ∷ 0 ∷ 0 ∷ 0 ∷ 0 ∷ [];
      a_asks = refl;
      b_asks = refl;
      alike = refl;
      differ = λ e. cc;
    }

matters_a8_2 : Matters (λ cdb. byte 0 cdb == 0xa8) (Field.Number 6 9)
unfolding command
matters_a8_2 =
    record {
      a = 0xa8 ∷ 0 ∷ 0 ∷ 0 ∷ 0 ∷ 0 ∷ 0 ∷ 0 ∷ 0 ∷ 0 ∷ 0 ∷ 0 ∷ 0 ∷ 0 ∷ 0 ∷ 0 ∷ [];
      b = 0xa8 ∷ 0 ∷ 0 ∷ 0 ∷ 0 ∷ 0 ∷ 0 ∷ 0 ∷ 0 ∷ 0x01 ∷ 0 ∷ 0 ∷ 0 ∷ 0 ∷ 0 ∷ 0 ∷ [];
      a_asks = refl;
      b_asks = refl;
      alike = refl;
      differ = λ e. cc;
    }

matters_aa_0 : Matters (λ cdb. byte 0 cdb == 0xaa) (Field.Bits 1 7 5)
unfolding command
matters_aa_0 =
    record {
      a = 0xaa ∷ 0 ∷ 0 ∷ 0 ∷ 0 ∷ 0 ∷ 0 ∷ 0 ∷ 0 ∷ 0 ∷ 0 ∷ 0 ∷ 0 ∷ 0 ∷ 0 ∷ 0 ∷ [];
      b = 0xaa ∷ 0x20 ∷ 0 ∷ 0 ∷ 0 ∷ 0 ∷ 0 ∷ 0 ∷ 0 ∷ 0 ∷ 0 ∷ 0 ∷ 0 ∷ 0 ∷ 0 ∷ 0 ∷ [];
      a_asks = refl;
      b_asks = refl;
      alike = refl;
      differ = λ e. cc;
    }

matters_aa_1 : Matters (λ cdb. byte 0 cdb == 0xaa) (Field.Number 2 5)
unfolding command
matters_aa_1 =
    record {
      a = 0xaa ∷ 0 ∷ 0 ∷ 0 ∷ 0 ∷ 0 ∷ 0 ∷ 0 ∷ 0 ∷ 0 ∷ 0 ∷ 0 ∷ 0 ∷ 0 ∷ 0 ∷ 0 ∷ [];
      b = 0xaa ∷ 0 ∷ 0 ∷ 0 ∷ 0 ∷ 0x01 ∷ 0 ∷ 0 ∷ 0 ∷ 0 ∷ 0 ∷ 0 ∷ 0 ∷ 0 ∷ 0 ∷ 0 ∷ [];
      a_asks = refl;
      b_asks = refl;
      alike = refl;
      differ = λ e. cc;
    }

matters_aa_2 : Matters (λ cdb. byte 0 cdb == 0xaa) (Field.Number 6 9)
unfolding command
matters_aa_2 =
    record {
      a = 0xaa ∷ 0 ∷ 0 ∷ 0 ∷ 0 ∷ 0 ∷ 0 ∷ 0 ∷ 0 ∷ 0 ∷ 0 ∷ 0 ∷ 0 ∷ 0 ∷ 0 ∷ 0 ∷ [];
      b = 0xaa ∷ 0 ∷ 0 ∷ 0 ∷ 0 ∷ 0 ∷ 0 ∷ 0 ∷ 0 ∷ 0x01 ∷ 0 ∷ 0 ∷ 0 ∷ 0 ∷ 0 ∷ 0 ∷ [];
      a_asks = refl;
      b_asks = refl;
      alike = refl;
      differ = λ e. cc;
    }

matters_ae_0 : Matters (λ cdb. byte 0 cdb == 0xae) (Field.Bits 1 2 1)
unfolding command
matters_ae_0 =
    record {
      a = 0xae ∷ 0 ∷ 0 ∷ 0 ∷ 0 ∷ 0 ∷ 0 ∷ 0 ∷ 0 ∷ 0 ∷ 0 ∷ 0 ∷ 0 ∷ 0 ∷ 0 ∷ 0 ∷ [];
      b = 0xae ∷ 0x04 ∷ 0 ∷ 0 ∷ 0 ∷ 0 ∷ 0 ∷ 0 ∷ 0 ∷ 0 ∷ 0 ∷ 0 ∷ 0 ∷ 0 ∷ 0 ∷ 0 ∷ [];
      a_asks = refl;
      b_asks = refl;
      alike = refl;
      differ = λ e. cc;
    }

matters_ae_1 : Matters (λ cdb. byte 0 cdb == 0xae) (Field.Bits 1 7 5)
unfolding command
matters_ae_1 =
    record {
      a = 0xae ∷ 0 ∷ 0 ∷ 0 ∷ 0 ∷ 0 ∷ 0 ∷ 0 ∷ 0 ∷ 0 ∷ 0 ∷ 0 ∷ 0 ∷ 0 ∷ 0 ∷ 0 ∷ [];
      b = 0xae ∷ 0x20 ∷ 0 ∷ 0 ∷ 0 ∷ 0 ∷ 0 ∷ 0 ∷ 0 ∷ 0 ∷ 0 ∷ 0 ∷ 0 ∷ 0 ∷ 0 ∷ 0 ∷ [];
      a_asks = refl;
      b_asks = refl;
      alike = refl;
      differ = λ e. cc;
    }

matters_ae_2 : Matters (λ cdb. byte 0 cdb == 0xae) (Field.Number 2 5)
unfolding command
matters_ae_2 =
    record {
      a = 0xae ∷ 0 ∷ 0 ∷ 0 ∷ 0 ∷ 0 ∷ 0 ∷ 0 ∷ 0 ∷ 0 ∷ 0 ∷ 0 ∷ 0 ∷ 0 ∷ 0 ∷ 0 ∷ [];
      b = 0xae ∷ 0 ∷ 0 ∷ 0 ∷ 0 ∷ 0x01 ∷ 0 ∷ 0 ∷ 0 ∷ 0 ∷ 0 ∷ 0 ∷ 0 ∷ 0 ∷ 0 ∷ 0 ∷ [];
      a_asks = refl;
      b_asks = refl;
      alike = refl;
      differ = λ e. cc;
    }

matters_ae_3 : Matters (λ cdb. byte 0 cdb == 0xae) (Field.Number 6 9)
unfolding command
matters_ae_3 =
    record {
      a = 0xae ∷ 0 ∷ 0 ∷ 0 ∷ 0 ∷ 0 ∷ 0 ∷ 0 ∷ 0 ∷ 0 ∷ 0 ∷ 0 ∷ 0 ∷ 0 ∷ 0 ∷ 0 ∷ [];
      b = 0xae ∷ 0 ∷ 0 ∷ 0 ∷ 0 ∷ 0 ∷ 0 ∷ 0 ∷ 0 ∷ 0x01 ∷ 0 ∷ 0 ∷ 0 ∷ 0 ∷ 0 ∷ 0 ∷ [];
      a_asks = refl;
      b_asks = refl;
      alike = refl;
      differ = λ e. cc;
    }

matters_af_0 : Matters (λ cdb. byte 0 cdb == 0xaf) (Field.Bits 1 2 1)
unfolding command
matters_af_0 =
    record {
      a = 0xaf ∷ 0 ∷ 0 ∷ 0 ∷ 0 ∷ 0 ∷ 0 ∷ 0 ∷ 0 ∷ 0 ∷ 0 ∷ 0 ∷ 0 ∷ 0 ∷ 0 ∷ 0 ∷ [];
      b = 0xaf ∷ 0x02 ∷ 0 ∷ 0 ∷ 0 ∷ 0 ∷ 0 ∷ 0 ∷ 0 ∷ 0 ∷ 0 ∷ 0 ∷ 0 ∷ 0 ∷ 0 ∷ 0 ∷ [];
      a_asks = refl;
      b_asks = refl;
      alike = refl;
      differ = λ e. cc;
    }

matters_af_1 : Matters (λ cdb. byte 0 cdb == 0xaf) (Field.Bits 1 7 5)
unfolding command
matters_af_1 =
    record {
      a = 0xaf ∷ 0 ∷ 0 ∷ 0 ∷ 0 ∷ 0 ∷ 0 ∷ 0 ∷ 0 ∷ 0 ∷ 0 ∷ 0 ∷ 0 ∷ 0 ∷ 0 ∷ 0 ∷ [];
      b = 0xaf ∷ 0x20 ∷ 0 ∷ 0 ∷ 0 ∷ 0 ∷ 0 ∷ 0 ∷ 0 ∷ 0 ∷ 0 ∷ 0 ∷ 0 ∷ 0 ∷ 0 ∷ 0 ∷ [];
      a_asks = refl;
      b_asks = refl;
      alike = refl;
      differ = λ e. cc;
    }

matters_af_2 : Matters (λ cdb. byte 0 cdb == 0xaf) (Field.Number 2 5)
unfolding command
matters_af_2 =
    record {
      a = 0xaf ∷ 0 ∷ 0 ∷ 0 ∷ 0 ∷ 0 ∷ 0 ∷ 0 ∷ 0 ∷ 0 ∷ 0 ∷ 0 ∷ 0 ∷ 0 ∷ 0 ∷ 0 ∷ [];
      b = 0xaf ∷ 0 ∷ 0 ∷ 0 ∷ 0 ∷ 0x01 ∷ 0 ∷ 0 ∷ 0 ∷ 0 ∷ 0 ∷ 0 ∷ 0 ∷ 0 ∷ 0 ∷ 0 ∷ [];
      a_asks = refl;
      b_asks = refl;
      alike = refl;
      differ = λ e. cc;
    }

matters_af_3 : Matters (λ cdb. byte 0 cdb == 0xaf) (Field.Number 6 9)
unfolding command
matters_af_3 =
    record {
      a = 0xaf ∷ 0 ∷ 0 ∷ 0 ∷ 0 ∷ 0 ∷ 0 ∷ 0 ∷ 0 ∷ 0 ∷ 0 ∷ 0 ∷ 0 ∷ 0 ∷ 0 ∷ 0 ∷ [];
      b = 0xaf ∷ 0 ∷ 0 ∷ 0 ∷ 0 ∷ 0 ∷ 0 ∷ 0 ∷ 0 ∷ 0x01 ∷ 0 ∷ 0 ∷ 0 ∷ 0 ∷ 0 ∷ 0 ∷ [];
      a_asks = refl;
      b_asks = refl;
      alike = refl;
      differ = λ e. cc;
    }

matters_b7_0 : Matters (λ cdb. byte 0 cdb == 0xb7) (Field.Bits 1 4 4)
unfolding command
matters_b7_0 =
    record {
      a = 0xb7 ∷ 0 ∷ 0 ∷ 0 ∷ 0 ∷ 0 ∷ 0 ∷ 0 ∷ 0 ∷ 0 ∷ 0 ∷ 0 ∷ 0 ∷ 0 ∷ 0 ∷ 0 ∷ [];
      b = 0xb7 ∷ 0x10 ∷ 0 ∷ 0 ∷ 0 ∷ 0 ∷ 0 ∷ 0 ∷ 0 ∷ 0 ∷ 0 ∷ 0 ∷ 0 ∷ 0 ∷ 0 ∷ 0 ∷ [];
      a_asks = refl;
      b_asks = refl;
      alike = refl;
      differ = λ e. apart (ap (lists (λ r. not r.primary)) e);
    }

matters_b7_1 : Matters (λ cdb. byte 0 cdb == 0xb7) (Field.Bits 1 3 3)
unfolding command
matters_b7_1 =
    record {
      a = 0xb7 ∷ 0 ∷ 0 ∷ 0 ∷ 0 ∷ 0 ∷ 0 ∷ 0 ∷ 0 ∷ 0 ∷ 0 ∷ 0 ∷ 0 ∷ 0 ∷ 0 ∷ 0 ∷ [];
      b = 0xb7 ∷ 0x08 ∷ 0 ∷ 0 ∷ 0 ∷ 0 ∷ 0 ∷ 0 ∷ 0 ∷ 0 ∷ 0 ∷ 0 ∷ 0 ∷ 0 ∷ 0 ∷ 0 ∷ [];
      a_asks = refl;
      b_asks = refl;
      alike = refl;
      differ = λ e. apart (ap (lists (λ r. not r.grown)) e);
    }

matters_b7_2 : Matters (λ cdb. byte 0 cdb == 0xb7) (Field.Bits 1 2 0)
unfolding command
matters_b7_2 =
    record {
      a = 0xb7 ∷ 0 ∷ 0 ∷ 0 ∷ 0 ∷ 0 ∷ 0 ∷ 0 ∷ 0 ∷ 0 ∷ 0 ∷ 0 ∷ 0 ∷ 0 ∷ 0 ∷ 0 ∷ [];
      b = 0xb7 ∷ 0x01 ∷ 0 ∷ 0 ∷ 0 ∷ 0 ∷ 0 ∷ 0 ∷ 0 ∷ 0 ∷ 0 ∷ 0 ∷ 0 ∷ 0 ∷ 0 ∷ 0 ∷ [];
      a_asks = refl;
      b_asks = refl;
      alike = refl;
      differ = λ e. apart (ap (lists (λ r. are_short_blocks r.format)) e);
    }

matters_b7_3 : Matters (λ cdb. byte 0 cdb == 0xb7) (Field.Number 6 9)
unfolding command
matters_b7_3 =
    record {
      a = 0xb7 ∷ 0 ∷ 0 ∷ 0 ∷ 0 ∷ 0 ∷ 0 ∷ 0 ∷ 0 ∷ 0 ∷ 0 ∷ 0 ∷ 0 ∷ 0 ∷ 0 ∷ 0 ∷ [];
      b = 0xb7 ∷ 0 ∷ 0 ∷ 0 ∷ 0 ∷ 0 ∷ 0 ∷ 0 ∷ 0 ∷ 0x01 ∷ 0 ∷ 0 ∷ 0 ∷ 0 ∷ 0 ∷ 0 ∷ [];
      a_asks = refl;
      b_asks = refl;
      alike = refl;
      differ = λ e. apart (ap (lists (λ r. r.allocation == 0)) e);
    }

matters_9e_10_0 : Matters (λ cdb. (byte 0 cdb == 0x9e) && (bits 1 4 0 cdb == 0x10)) (Field.Number 10 13)
unfolding command
matters_9e_10_0 =
    record {
      a = 0x9e ∷ 0x10 ∷ 0 ∷ 0 ∷ 0 ∷ 0 ∷ 0 ∷ 0 ∷ 0 ∷ 0 ∷ 0 ∷ 0 ∷ 0 ∷ 0 ∷ 0 ∷ 0 ∷ [];
      b = 0x9e ∷ 0x10 ∷ 0 ∷ 0 ∷ 0 ∷ 0 ∷ 0 ∷ 0 ∷ 0 ∷ 0 ∷ 0 ∷ 0 ∷ 0 ∷ 0x01 ∷ 0 ∷ 0 ∷ [];
      a_asks = refl;
      b_asks = refl;
      alike = refl;
      differ = λ e. cc;
    }

matters_9e_12_0 : Matters (λ cdb. (byte 0 cdb == 0x9e) && (bits 1 4 0 cdb == 0x12)) (Field.Number 2 9)
unfolding command
matters_9e_12_0 =
    record {
      a = 0x9e ∷ 0x12 ∷ 0 ∷ 0 ∷ 0 ∷ 0 ∷ 0 ∷ 0 ∷ 0 ∷ 0 ∷ 0 ∷ 0 ∷ 0 ∷ 0 ∷ 0 ∷ 0 ∷ [];
      b = 0x9e ∷ 0x12 ∷ 0 ∷ 0 ∷ 0 ∷ 0 ∷ 0 ∷ 0 ∷ 0 ∷ 0x01 ∷ 0 ∷ 0 ∷ 0 ∷ 0 ∷ 0 ∷ 0 ∷ [];
      a_asks = refl;
      b_asks = refl;
      alike = refl;
      differ = λ e. cc;
    }

matters_9e_12_1 : Matters (λ cdb. (byte 0 cdb == 0x9e) && (bits 1 4 0 cdb == 0x12)) (Field.Number 10 13)
unfolding command
matters_9e_12_1 =
    record {
      a = 0x9e ∷ 0x12 ∷ 0 ∷ 0 ∷ 0 ∷ 0 ∷ 0 ∷ 0 ∷ 0 ∷ 0 ∷ 0 ∷ 0 ∷ 0 ∷ 0 ∷ 0 ∷ 0 ∷ [];
      b = 0x9e ∷ 0x12 ∷ 0 ∷ 0 ∷ 0 ∷ 0 ∷ 0 ∷ 0 ∷ 0 ∷ 0 ∷ 0 ∷ 0 ∷ 0 ∷ 0x01 ∷ 0 ∷ 0 ∷ [];
      a_asks = refl;
      b_asks = refl;
      alike = refl;
      differ = λ e. cc;
    }

matters_a3_0c_0 : Matters (λ cdb. (byte 0 cdb == 0xa3) && (bits 1 4 0 cdb == 0x0c)) (Field.Bits 2 7 7)
unfolding command
matters_a3_0c_0 =
    record {
      a = 0xa3 ∷ 0x0c ∷ 0x02 ∷ 0 ∷ 0 ∷ 0 ∷ 0 ∷ 0 ∷ 0 ∷ 0 ∷ 0 ∷ 0 ∷ 0 ∷ 0 ∷ 0 ∷ 0 ∷ [];
      b = 0xa3 ∷ 0x0c ∷ 0x82 ∷ 0 ∷ 0 ∷ 0 ∷ 0 ∷ 0 ∷ 0 ∷ 0 ∷ 0 ∷ 0 ∷ 0 ∷ 0 ∷ 0 ∷ 0 ∷ [];
      a_asks = refl;
      b_asks = refl;
      alike = refl;
      differ = λ e. cc;
    }

matters_a3_0c_1 : Matters (λ cdb. (byte 0 cdb == 0xa3) && (bits 1 4 0 cdb == 0x0c)) (Field.Bits 2 2 0)
unfolding command
matters_a3_0c_1 =
    record {
      a = 0xa3 ∷ 0x0c ∷ 0x02 ∷ 0 ∷ 0 ∷ 0 ∷ 0 ∷ 0 ∷ 0 ∷ 0 ∷ 0 ∷ 0 ∷ 0 ∷ 0 ∷ 0 ∷ 0 ∷ [];
      b = 0xa3 ∷ 0x0c ∷ 0x03 ∷ 0 ∷ 0 ∷ 0 ∷ 0 ∷ 0 ∷ 0 ∷ 0 ∷ 0 ∷ 0 ∷ 0 ∷ 0 ∷ 0 ∷ 0 ∷ [];
      a_asks = refl;
      b_asks = refl;
      alike = refl;
      differ = λ e. cc;
    }

matters_a3_0c_2 : Matters (λ cdb. (byte 0 cdb == 0xa3) && (bits 1 4 0 cdb == 0x0c)) (Field.Whole 3)
unfolding command
matters_a3_0c_2 =
    record {
      a = 0xa3 ∷ 0x0c ∷ 0x02 ∷ 0 ∷ 0 ∷ 0 ∷ 0 ∷ 0 ∷ 0 ∷ 0 ∷ 0 ∷ 0 ∷ 0 ∷ 0 ∷ 0 ∷ 0 ∷ [];
      b = 0xa3 ∷ 0x0c ∷ 0x02 ∷ 0x01 ∷ 0 ∷ 0 ∷ 0 ∷ 0 ∷ 0 ∷ 0 ∷ 0 ∷ 0 ∷ 0 ∷ 0 ∷ 0 ∷ 0 ∷ [];
      a_asks = refl;
      b_asks = refl;
      alike = refl;
      differ = λ e. cc;
    }

matters_a3_0c_3 : Matters (λ cdb. (byte 0 cdb == 0xa3) && (bits 1 4 0 cdb == 0x0c)) (Field.Number 4 5)
unfolding command
matters_a3_0c_3 =
    record {
      a = 0xa3 ∷ 0x0c ∷ 0x02 ∷ 0 ∷ 0 ∷ 0 ∷ 0 ∷ 0 ∷ 0 ∷ 0 ∷ 0 ∷ 0 ∷ 0 ∷ 0 ∷ 0 ∷ 0 ∷ [];
      b = 0xa3 ∷ 0x0c ∷ 0x02 ∷ 0 ∷ 0 ∷ 0x01 ∷ 0 ∷ 0 ∷ 0 ∷ 0 ∷ 0 ∷ 0 ∷ 0 ∷ 0 ∷ 0 ∷ 0 ∷ [];
      a_asks = refl;
      b_asks = refl;
      alike = refl;
      differ = λ e. cc;
    }

matters_a3_0c_4 : Matters (λ cdb. (byte 0 cdb == 0xa3) && (bits 1 4 0 cdb == 0x0c)) (Field.Number 6 9)
unfolding command
matters_a3_0c_4 =
    record {
      a = 0xa3 ∷ 0x0c ∷ 0x02 ∷ 0 ∷ 0 ∷ 0 ∷ 0 ∷ 0 ∷ 0 ∷ 0 ∷ 0 ∷ 0 ∷ 0 ∷ 0 ∷ 0 ∷ 0 ∷ [];
      b = 0xa3 ∷ 0x0c ∷ 0x02 ∷ 0 ∷ 0 ∷ 0 ∷ 0 ∷ 0 ∷ 0 ∷ 0x01 ∷ 0 ∷ 0 ∷ 0 ∷ 0 ∷ 0 ∷ 0 ∷ [];
      a_asks = refl;
      b_asks = refl;
      alike = refl;
      differ = λ e. cc;
    }

matters_a3_0d_0 : Matters (λ cdb. (byte 0 cdb == 0xa3) && (bits 1 4 0 cdb == 0x0d)) (Field.Bits 2 7 7)
unfolding command
matters_a3_0d_0 =
    record {
      a = 0xa3 ∷ 0x0d ∷ 0 ∷ 0 ∷ 0 ∷ 0 ∷ 0 ∷ 0 ∷ 0 ∷ 0x04 ∷ 0 ∷ 0 ∷ 0 ∷ 0 ∷ 0 ∷ 0 ∷ [];
      b = 0xa3 ∷ 0x0d ∷ 0x80 ∷ 0 ∷ 0 ∷ 0 ∷ 0 ∷ 0 ∷ 0 ∷ 0x04 ∷ 0 ∷ 0 ∷ 0 ∷ 0 ∷ 0 ∷ 0 ∷ [];
      a_asks = refl;
      b_asks = refl;
      alike = refl;
      differ = λ e. cc;
    }

matters_a3_0d_1 : Matters (λ cdb. (byte 0 cdb == 0xa3) && (bits 1 4 0 cdb == 0x0d)) (Field.Number 6 9)
unfolding command
matters_a3_0d_1 =
    record {
      a = 0xa3 ∷ 0x0d ∷ 0 ∷ 0 ∷ 0 ∷ 0 ∷ 0 ∷ 0 ∷ 0 ∷ 0x04 ∷ 0 ∷ 0 ∷ 0 ∷ 0 ∷ 0 ∷ 0 ∷ [];
      b = 0xa3 ∷ 0x0d ∷ 0 ∷ 0 ∷ 0 ∷ 0 ∷ 0 ∷ 0 ∷ 0 ∷ 0x05 ∷ 0 ∷ 0 ∷ 0 ∷ 0 ∷ 0 ∷ 0 ∷ [];
      a_asks = refl;
      b_asks = refl;
      alike = refl;
      differ = λ e. cc;
    }

pub plain_matter : OfEach PlainMatters plain_commands
plain_matter = (
  tt,
  (
    (matters_03_0, (matters_03_1, tt)),
    (
      (matters_04_0, (matters_04_1, (matters_04_2, (matters_04_3, tt)))),
      (
        (matters_08_0, (matters_08_1, (matters_08_2, tt))),
        (
          (matters_0a_0, (matters_0a_1, (matters_0a_2, tt))),
          (
            (matters_12_0, (matters_12_1, (matters_12_2, tt))),
            (
              (matters_15_0, (matters_15_1, (matters_15_2, tt))),
              (
                (matters_1a_0, (matters_1a_1, (matters_1a_2, (matters_1a_3, (matters_1a_4, tt))))),
                (
                  (matters_1b_0, (matters_1b_1, (matters_1b_2, tt))),
                  (
                    (matters_1d_0, (matters_1d_1, tt)),
                    (
                      (matters_1e_0, tt),
                      (
                        tt,
                        (
                          (matters_28_0, (matters_28_1, (matters_28_2, tt))),
                          (
                            (matters_2a_0, (matters_2a_1, (matters_2a_2, tt))),
                            (
                              (matters_2e_0, (matters_2e_1, (matters_2e_2, (matters_2e_3, tt)))),
                              (
                                (matters_2f_0, (matters_2f_1, (matters_2f_2, (matters_2f_3, tt)))),
                                (
                                  (matters_34_0, (matters_34_1, tt)),
                                  (
                                    (matters_35_0, (matters_35_1, tt)),
                                    (
                                      (matters_37_0, (matters_37_1, (matters_37_2, (matters_37_3, tt)))),
                                      (
                                        (matters_41_0, (matters_41_1, (matters_41_2, (matters_41_3, (matters_41_4, tt))))),
                                        (
                                          (matters_42_0, (matters_42_1, tt)),
                                          (
                                            (matters_55_0, (matters_55_1, (matters_55_2, tt))),
                                            (
                                              (matters_5a_0, (matters_5a_1, (matters_5a_2, (matters_5a_3, (matters_5a_4, (matters_5a_5, tt)))))),
                                              (
                                                (matters_88_0, (matters_88_1, (matters_88_2, tt))),
                                                (
                                                  (matters_89_0, (matters_89_1, (matters_89_2, tt))),
                                                  (
                                                    (matters_8a_0, (matters_8a_1, (matters_8a_2, tt))),
                                                    (
                                                      (matters_8b_0, (matters_8b_1, (matters_8b_2, tt))),
                                                      (
                                                        (matters_8e_0, (matters_8e_1, (matters_8e_2, (matters_8e_3, tt)))),
                                                        (
                                                          (matters_8f_0, (matters_8f_1, (matters_8f_2, (matters_8f_3, tt)))),
                                                          (
                                                            (matters_90_0, (matters_90_1, tt)),
                                                            (
                                                              (matters_91_0, (matters_91_1, tt)),
                                                              (
                                                                (matters_93_0, (matters_93_1, (matters_93_2, (matters_93_3, (matters_93_4, (matters_93_5, tt)))))),
                                                                (
                                                                  (matters_a0_0, (matters_a0_1, tt)),
                                                                  (
                                                                    (matters_a8_0, (matters_a8_1, (matters_a8_2, tt))),
                                                                    (
                                                                      (matters_aa_0, (matters_aa_1, (matters_aa_2, tt))),
                                                                      (
                                                                        (matters_ae_0, (matters_ae_1, (matters_ae_2, (matters_ae_3, tt)))),
                                                                        (
                                                                          (matters_af_0, (matters_af_1, (matters_af_2, (matters_af_3, tt)))),
                                                                          ((matters_b7_0, (matters_b7_1, (matters_b7_2, (matters_b7_3, tt)))), tt),
                                                                        ),
                                                                      ),
                                                                    ),
                                                                  ),
                                                                ),
                                                              ),
                                                            ),
                                                          ),
                                                        ),
                                                      ),
                                                    ),
                                                  ),
                                                ),
                                              ),
                                            ),
                                          ),
                                        ),
                                      ),
                                    ),
                                  ),
                                ),
                              ),
                            ),
                          ),
                        ),
                      ),
                    ),
                  ),
                ),
              ),
            ),
          ),
        ),
      ),
    ),
  ),
)

pub action_matter : OfEach ActionMatters action_commands
action_matter = (
  (matters_9e_10_0, tt),
  (
    (matters_9e_12_0, (matters_9e_12_1, tt)),
    (
      (matters_a3_0c_0, (matters_a3_0c_1, (matters_a3_0c_2, (matters_a3_0c_3, (matters_a3_0c_4, tt))))),
      ((matters_a3_0d_0, (matters_a3_0d_1, tt)), tt),
    ),
  ),
)
