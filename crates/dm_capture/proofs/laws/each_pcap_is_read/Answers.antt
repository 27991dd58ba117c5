-- The law as it is proved for files.
use Rattle.dm_capture.proofs.Files.{each_pcap_is_read}
use Rattle.dm_capture.proofs.laws.each_pcap_is_read.Goals as goal

pub returns : goal.returns
returns c = each_pcap_is_read
