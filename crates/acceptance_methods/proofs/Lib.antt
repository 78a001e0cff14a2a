pub mod ContractLemmas
pub mod FormedLemmas
