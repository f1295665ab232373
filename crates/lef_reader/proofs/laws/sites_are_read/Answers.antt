use Rattle.lef_reader.proofs.Spelled.{site-line-read, sites-read}
use Rattle.lef_reader.proofs.laws.sites_are_read.Goals as goal

pub returns : goal.returns
returns c = record { lines = site-line-read; sites = sites-read }
