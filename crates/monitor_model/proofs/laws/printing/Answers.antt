use Rattle.monitor_model.proofs.Joined.{listings_are_all}
use Rattle.monitor_model.proofs.ListingLaw.{prints_alone, prints_in_listing, refused_by_printer}
use Rattle.monitor_model.proofs.laws.printing.Goals as goal

pub returns-clause-alone : goal.returns-clause-alone
returns-clause-alone c = prints_alone

pub returns-clause-begun : goal.returns-clause-begun
returns-clause-begun c = prints_in_listing

pub returns-clause-joined : goal.returns-clause-joined
returns-clause-joined c = listings_are_all

pub returns-clause-eight : goal.returns-clause-eight
returns-clause-eight c = refused_by_printer
