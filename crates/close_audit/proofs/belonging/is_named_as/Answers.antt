use Rattle.std.proofs.Common.{rules, sym, ap, ◌∙◌, ◌≡◌, true, false, refl}
use Rattle.std.specs.Prelude.{Bool}
use Rattle.std.proofs.Math.Bool.{beq}
use Rattle.command_model.specs.declared.identity.Identity.{Identity}
use Rattle.close_audit.proofs.belonging.is_named_as.Goals as goal

same_flag : (a b : Bool) → beq a b ≡ true → a ≡ b
same_flag true true e = refl
same_flag false false e = refl
same_flag true false e = cc
same_flag false true e = cc

-- names that agree in each field
same_names : (a b : Identity) → a.vendor ≡ b.vendor → a.product ≡ b.product → a.revision ≡ b.revision → a.serial ≡ b.serial
    → a.serial_len ≡ b.serial_len → a.naa ≡ b.naa → a.physical_exponent ≡ b.physical_exponent → a.rotation_rate ≡ b.rotation_rate
    → a.sense_format ≡ b.sense_format → a.write_cache ≡ b.write_cache → a.read_only ≡ b.read_only → a ≡ b
same_names a b e1 e2 e3 e4 e5 e6 e7 e8 e9 e10 e11 =
    ap (λ x. record a { vendor = x }) e1
    ∙ ap (λ x. record a { vendor = b.vendor; product = x }) e2
    ∙ ap (λ x. record a { vendor = b.vendor; product = b.product; revision = x }) e3
    ∙ ap (λ x. record a { vendor = b.vendor; product = b.product; revision = b.revision; serial = x }) e4
    ∙ ap (λ x. record a { vendor = b.vendor; product = b.product; revision = b.revision; serial = b.serial; serial_len = x }) e5
    ∙ ap (λ x. record a { vendor = b.vendor; product = b.product; revision = b.revision; serial = b.serial; serial_len = b.serial_len; naa = x }) e6
    ∙ ap (λ x. record a { vendor = b.vendor; product = b.product; revision = b.revision; serial = b.serial; serial_len = b.serial_len; naa = b.naa; physical_exponent = x }) e7
    ∙ ap (λ x. record a { vendor = b.vendor; product = b.product; revision = b.revision; serial = b.serial; serial_len = b.serial_len; naa = b.naa; physical_exponent = b.physical_exponent; rotation_rate = x }) e8
    ∙ ap (λ x. record a { vendor = b.vendor; product = b.product; revision = b.revision; serial = b.serial; serial_len = b.serial_len; naa = b.naa; physical_exponent = b.physical_exponent; rotation_rate = b.rotation_rate; sense_format = x }) e9
    ∙ ap (λ x. record a { vendor = b.vendor; product = b.product; revision = b.revision; serial = b.serial; serial_len = b.serial_len; naa = b.naa; physical_exponent = b.physical_exponent; rotation_rate = b.rotation_rate; sense_format = b.sense_format; write_cache = x }) e10
    ∙ ap (λ x. record a { vendor = b.vendor; product = b.product; revision = b.revision; serial = b.serial; serial_len = b.serial_len; naa = b.naa; physical_exponent = b.physical_exponent; rotation_rate = b.rotation_rate; sense_format = b.sense_format; write_cache = b.write_cache; read_only = x }) e11

pub returns : goal.returns
returns c = (
  λ yes.
      let e1 : c.identity.result.vendor ≡ c.args.spec.now.identity.vendor = search rules in
      let e2 : c.identity.result.product ≡ c.args.spec.now.identity.product = search rules in
      let e3 : c.identity.result.revision ≡ c.args.spec.now.identity.revision = search rules in
      let e4 : c.identity.result.serial ≡ c.args.spec.now.identity.serial = search rules in
      let e5 : c.identity.result.serial_len ≡ c.args.spec.now.identity.serial_len = search rules in
      let e6 : c.identity.result.naa ≡ c.args.spec.now.identity.naa = search rules in
      let e7 : c.identity.result.physical_exponent ≡ c.args.spec.now.identity.physical_exponent = search rules in
      let e8 : c.identity.result.rotation_rate ≡ c.args.spec.now.identity.rotation_rate = search rules in
      let e9 : c.identity.result.sense_format ≡ c.args.spec.now.identity.sense_format = search rules in
      let e10 : c.identity.result.write_cache ≡ c.args.spec.now.identity.write_cache = search (rules, same_flag) in
      let e11 : c.identity.result.read_only ≡ c.args.spec.now.identity.read_only = search (rules, same_flag) in
      sym c.identity.ensures ∙ same_names c.identity.result c.args.spec.now.identity e1 e2 e3 e4 e5 e6 e7 e8 e9 e10 e11,
  λ same. search rules,
)
