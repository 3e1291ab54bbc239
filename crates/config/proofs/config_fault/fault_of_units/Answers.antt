use Rattle.std.proofs.Common.{sym, rules}
use Rattle.config.specs.Config.{is_unit, has_lun_0, has_own_naa}
use Rattle.config.proofs.Faults.{fails, within, all, of_unit, not_all}
use Rattle.config.proofs.config_fault.fault_of_units.Goals as goal

pub fault_of_unit-requires : goal.fault_of_unit-requires
fault_of_unit-requires c = fails is_unit c.args.units.now c.in-Some.unit_index _ (sym c.in-Some.ensures)

pub returns-in-Some-clause-cause : goal.returns-in-Some-clause-cause
returns-in-Some-clause-cause c =
    let e = sym c.in-Some.ensures in of_unit c.args.units.now c.in-Some.unit_index _ c.fault_of_unit.result (search rules) e (within is_unit c.args.units.now c.in-Some.unit_index _ e) c.fault_of_unit.ensures

pub returns-in-Some-first_lacking-clause-none : goal.returns-in-Some-first_lacking-clause-none
returns-in-Some-first_lacking-clause-none c =
    let units = c.args.units.now in rw (not_all (λ u. has_lun_0 units u.target) units _ (sym c.in-Some-first_lacking.ensures)) (search rules)

pub returns-in-Some-first_fall-clause-cause : goal.returns-in-Some-first_fall-clause-cause
returns-in-Some-first_fall-clause-cause c =
    let units = c.args.units.now in ((search rules, all is_unit units (sym c.in_default.ensures)), search rules)

pub returns-in-Some-first_lacking-clause-cause : goal.returns-in-Some-first_lacking-clause-cause
returns-in-Some-first_lacking-clause-cause c =
    let units = c.args.units.now in ((search rules, all is_unit units (sym c.in_default.ensures)), search rules, search rules)

pub returns-in-Some-first_sharing-clause-none : goal.returns-in-Some-first_sharing-clause-none
returns-in-Some-first_sharing-clause-none c =
    let units = c.args.units.now in rw (not_all (has_own_naa units) units _ (sym c.in-Some-first_sharing.ensures)) (search rules)

pub returns-in-Some-first_sharing-clause-cause : goal.returns-in-Some-first_sharing-clause-cause
returns-in-Some-first_sharing-clause-cause c =
    let units = c.args.units.now in
    ((search rules, all is_unit units (sym c.in_default.ensures)), search rules, all (λ u. has_lun_0 units u.target) units (sym c.in_default-first_lacking.ensures), search rules)

pub returns-in-None-clause-none : goal.returns-in-None-clause-none
returns-in-None-clause-none c =
    let units = c.args.units.now in
    rw (all (has_own_naa units) units (sym c.in-None.ensures))
    (rw (all (λ u. has_lun_0 units u.target) units (sym c.in_default-first_lacking.ensures)) (rw (all is_unit units (sym c.in_default.ensures)) (search rules)))
