use Rattle.device_model.proofs.Storing.{given_stays, kept_stays, unkept_stays, lost_stays, lost_then, loaded_then, kept_then, denied_stays, denied_then, written_then, deals_alone}
use Rattle.device_model.proofs.storage_laws.a_storage_changes_by_its_host.Goals as goal

pub returns-clause-given : goal.returns-clause-given
returns-clause-given c = λ w d unit_index u v. given_stays d w unit_index u v

pub returns-clause-kept : goal.returns-clause-kept
returns-clause-kept c = λ w d unit_index u v. kept_stays d w unit_index u v

pub returns-clause-unkept : goal.returns-clause-unkept
returns-clause-unkept c = λ w d unit_index u v. unkept_stays d w unit_index u v

pub returns-clause-deals : goal.returns-clause-deals
returns-clause-deals c = deals_alone

pub returns-clause-lost : goal.returns-clause-lost
returns-clause-lost c = λ w d unit_index p u v. lost_stays d w unit_index p u v

pub returns-clause-unread : goal.returns-clause-unread
returns-clause-unread c = lost_then

pub returns-clause-read : goal.returns-clause-read
returns-clause-read c = loaded_then

pub returns-clause-written : goal.returns-clause-written
returns-clause-written c = kept_then

pub returns-clause-denied : goal.returns-clause-denied
returns-clause-denied c = λ w d unit_index p u v. denied_stays d w unit_index p u v

pub returns-clause-unwritten : goal.returns-clause-unwritten
returns-clause-unwritten c = denied_then

pub returns-clause-rewritten : goal.returns-clause-rewritten
returns-clause-rewritten c = written_then
