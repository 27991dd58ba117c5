pub mod ChunkAccounts
pub mod Fragments
pub mod FrontChunks
pub mod Laws
pub mod MessageRuns
pub mod Reassembly
pub mod SctpFlows
pub mod TsnWindows
